-- The code's table of made names as what contracts speak of.
use Rattle.std.specs.Prelude.{ℕ, [], slice_index_or}
use Rattle.glk_elf.specs.declared.sections.Section.TheVariants as section
use Rattle.glk_keys.specs.declared.made_names.MadeName.{MadeName as MadeEntry}
use Rattle.glk_keys.specs.declared.made_names.MadePlace.TheVariants as place
use Rattle.glk_keys.specs.MadeNames.{MadeName, made_names}

abbrev pub made_view : MadeEntry → MadeName
made_view m = record { name = m.name.now; section = m.section; place = m.place; size = m.size }

abbrev pub no_made : MadeName
no_made = record { name = []; section = section.Text; place = place.Start; size = 0 }

-- made name k
abbrev pub made_at : ℕ → MadeName
made_at k = slice_index_or made_names k no_made
