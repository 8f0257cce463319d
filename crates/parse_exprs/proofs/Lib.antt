pub mod PhraseSteps
