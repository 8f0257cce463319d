-- Small streams, worked out by hand.
use Rattle.std.specs.Prelude.{◌≡◌, [], ◌∷◌, None, Some, Ok, Err, codes}
use Rattle.lsp_frames.specs.Marks.{lines}
use Rattle.lsp_frames.specs.Fields.{length_in}
use Rattle.lsp_frames.specs.Frames.{messages_of, frame}
use Rattle.lsp_frames.specs.declared.field.FrameFault.TheVariants.{MalformedHeader, NotANumber, LengthTwice, NoLength, ContentTooLong}

pub record Examples : Type 0 where
  pub two_lines : lines (codes "a\r\nbc") ≡ codes "a" ∷ codes "bc" ∷ []
  pub no_line : lines [] ≡ [] ∷ []
  pub plain : length_in (codes "Content-Length: 12") ≡ Ok 12
  pub small_letters : length_in (codes "content-length:12 ") ≡ Ok 12
  pub with_type : length_in (codes "Content-Type: application/vscode-jsonrpc; charset=utf-8\r\nCONTENT-LENGTH: 007") ≡ Ok 7
  pub greatest : length_in (codes "Content-Length: 67108864") ≡ Ok 67108864
  pub too_long : length_in (codes "Content-Length: 67108865") ≡ Err ContentTooLong
  pub much_too_long : length_in (codes "Content-Length: 99999999999999999999999999") ≡ Err ContentTooLong
  pub twice : length_in (codes "Content-Length: 1\r\nContent-Length: 1") ≡ Err LengthTwice
  pub missing : length_in (codes "Content-Type: x") ≡ Err NoLength
  pub no_colon : length_in (codes "Content-Length: 1\r\nhello") ≡ Err MalformedHeader
  pub empty : length_in [] ≡ Err MalformedHeader
  pub no_digits : length_in (codes "Content-Length: ") ≡ Err NotANumber
  pub signed : length_in (codes "Content-Length: -1") ≡ Err NotANumber
  pub lone_newline : length_in (codes "Content-Length: 1\nContent-Type: x") ≡ Err NotANumber
  pub two_messages : messages_of (codes "Content-Length: 2\r\n\r\n{}Content-Length: 3\r\n\r\n{ }Con")
      ≡ record { contents = codes "{}" ∷ codes "{ }" ∷ []; fault = None }
  pub part_of_one : messages_of (codes "Content-Length: 2\r\n\r\n{") ≡ record { contents = []; fault = None }
  pub none_yet : messages_of (codes "Content-Length: x\r\n") ≡ record { contents = []; fault = None }
  pub fault_behind : messages_of (codes "Content-Length: 2\r\n\r\n{}Content-Length: x\r\n\r\n")
      ≡ record { contents = codes "{}" ∷ []; fault = Some NotANumber }
  pub blank_first : messages_of (codes "\r\n\r\n") ≡ record { contents = []; fault = Some MalformedHeader }
  pub written : frame (codes "{}") ≡ codes "Content-Length: 2\r\n\r\n{}"
