mod LexedTexts
mod ReadTokens
mod FoundTypes
