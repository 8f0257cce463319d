-- What is known of courses, of certificates, and of files of declared bounds.
use Rattle.infer_spec.specs.Laws.{OneCertificate, EndsOrStops, OnePlace, NoneTooLarge}
use Rattle.bound_infer.specs.Laws.{CertificatesVerify}
use Rattle.cert_check.specs.Laws.{FaultlessExactly}
use Rattle.bound_file.specs.Laws.{FilesHaveOneAnswer}
use Rattle.infer_systems_laws.specs.Laws.{SystemsGenerate, NormalsAreOrdered, OrderedAreProper}

pub record KnownLaws : Type 0 where
  pub one : OneCertificate
  pub ends_or_stops : EndsOrStops
  pub one_place : OnePlace
  pub generate : SystemsGenerate
  pub ordered : NormalsAreOrdered
  pub files : FilesHaveOneAnswer
  pub proper : OrderedAreProper
  pub faultless : FaultlessExactly
  pub large : NoneTooLarge
  pub verify : CertificatesVerify
