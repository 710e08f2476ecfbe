-- What the section is written from.
use Rattle.std.specs.Prelude.{◌≡◌, []}
use Rattle.glk_pctab.specs.Building.{entries_view, firsts_from}
use Rattle.glk_pctab.specs.Parts.{ArePartsOf}
use Rattle.glk_pctab.specs.Section.{zero_byte, names, files, tables, entries}
use Rattle.glk_pctab.specs.Views.{view, units_view}
use Rattle.glk_pctab.specs.declared.function.Pclntab.{Pclntab}
use Rattle.glk_pctab.specs.declared.section.Lists.{Lists}

-- the lists of these functions, and where the parts of their section are
pub record AreListsOf (t : Pclntab) (l : Lists) : Type 0 where
  pub firsts_are : l.firsts.items ≡ firsts_from 0 (units_view t.units.now)
  pub entries_are : entries_view l.entries.items ≡ entries (view t)
  pub names_are : l.names ≡ record { mark = zero_byte; elements = names (view t) }
  pub files_are : l.files ≡ record { mark = zero_byte; elements = files (view t) }
  pub tables_are : l.tables ≡ record { mark = []; elements = tables (view t) }
  pub parts_are : ArePartsOf (view t) l.parts
