mod NextChunk
mod PlaceLists
mod FieldSteps
mod Sound
mod OwnFields
mod Windows
mod SymbolWindows
mod ImageWindows
