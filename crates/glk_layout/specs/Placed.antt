-- What is placed, as plain lists: the kept symbols in load order, the made contents of .rodata in their order, and the sizes of
-- the tables.
use Rattle.std.specs.Prelude.{List}
use Rattle.glk_layout.specs.declared.input.KeptSymbol.{KeptSymbol}
use Rattle.glk_layout.specs.declared.input.MadeContent.{MadeContent}
use Rattle.glk_layout.specs.declared.input.Tables.{Tables}
use Rattle.glk_layout.specs.declared.input.PlacedContents.{PlacedContents as PlacedSlices}

pub record PlacedContents : Type 0 where
  pub symbols : List KeptSymbol
  pub made : List MadeContent
  pub tables : Tables

-- the code's contents as these
abbrev pub placed_view : PlacedSlices → PlacedContents
placed_view c = record { symbols = c.symbols.now; made = c.made.now; tables = c.tables }
