-- The order of lines, and the least rule that a line breaks.
use Rattle.std.specs.Prelude.{◌==◌, ◌&&◌, ◌+◌, nat_le, ℕ, Bool, true, false, not, List, length, Option, Some, None, Result, Ok}
use Rattle.glk_obj.specs.Rules.{shortest_hash, longest_hash}
use Rattle.glk_objtext.specs.Answers.{◌>>=◌, demand, misplaced_object, out_of_order, field_count, misplaced_part, hash_length}
use Rattle.glk_objtext.specs.Fields.{fields, field_at}
use Rattle.glk_objtext.specs.Words.{word_of, arity, rank}
use Rattle.glk_objtext.specs.Values.{value_of, word_of_line}
use Rattle.glk_objtext.specs.declared.line.DefBlock.TheVariants.{Hasheddef}
use Rattle.glk_objtext.specs.declared.line.Line.{Line}
use Rattle.glk_objtext.specs.declared.line.Line.TheVariants.{Symbol}
use Rattle.glk_objtext.specs.declared.stage.Part.{Part}
use Rattle.glk_objtext.specs.declared.stage.Part.TheVariants.{Outside, Fresh, Filled, Relocs, Auxes}
use Rattle.glk_objtext.specs.declared.stage.Stage.{Stage}
use Rattle.glk_objtext.specs.declared.words.Word.{Word}
use Rattle.glk_objtext.specs.declared.words.Word.TheVariants.{Object, Def, Hash64, Hash, Data, Reloc, Aux, Ndef}

-- before the first line
abbrev pub at_start : Stage
at_start = record { rank = 0; part = Outside; width = None }

-- the words of the parts of a definition
abbrev pub is_part : Word → Bool
is_part Data = true
is_part Reloc = true
is_part Aux = true
is_part w = false

-- the first line is an `object` line, and no later one is
unfoldable pub begins_well : Stage → Word → Bool
begins_well stage Object = stage.rank == 0
begins_well stage w = not (stage.rank == 0)

-- no line of a later kind has come
unfoldable pub is_ordered : Stage → Word → Bool
is_ordered stage Data = true
is_ordered stage Reloc = true
is_ordered stage Aux = true
is_ordered stage w = nat_le stage.rank (rank w)

-- under a definition come its data, at most once, then its relocations, then its auxes
unfoldable pub has_room : Part → Word → Bool
has_room Fresh Data = true
has_room part Data = false
has_room Fresh Reloc = true
has_room Filled Reloc = true
has_room Relocs Reloc = true
has_room part Reloc = false
has_room Outside Aux = false
has_room part Aux = true
has_room part w = true

-- a length of long hashes: that of the earlier ones, where there are some
unfoldable pub is_hash_width : Option ℕ → ℕ → Bool
is_hash_width None n = nat_le shortest_hash n && nat_le n longest_hash
is_hash_width (Some earlier) n = (nat_le shortest_hash n && nat_le n longest_hash) && (n == earlier)

unfoldable pub fits_width : Option ℕ → Line → Bool
fits_width width (Symbol Hasheddef sym hash) = is_hash_width width (length hash)
fits_width width line = true

-- how far the lines have come after a line
unfoldable pub rank_after : ℕ → Word → ℕ
rank_after before Data = before
rank_after before Reloc = before
rank_after before Aux = before
rank_after before w = rank w

unfoldable pub part_after : Word → Part
part_after Def = Fresh
part_after Hash64 = Fresh
part_after Hash = Fresh
part_after Ndef = Fresh
part_after Data = Filled
part_after Reloc = Relocs
part_after Aux = Auxes
part_after w = Outside

unfoldable pub width_after : Option ℕ → Line → Option ℕ
width_after width (Symbol Hasheddef sym hash) = Some (length hash)
width_after width line = width

unfoldable pub after : Stage → Line → Stage
after stage line = record {
  rank = rank_after stage.rank (word_of_line line);
  part = part_after (word_of_line line);
  width = width_after stage.width line;
}

-- What a trimmed line says at this stage, or the least rule that it breaks: the rules are tried in
-- the order of their numbers. Of the rules on fields, those on numbers come before those on strings.
unfoldable pub line_at : Stage → List ℕ → Result Line ℕ
line_at stage line = do
  word ← word_of (field_at (fields line) 0)
  begun ← demand misplaced_object (begins_well stage word)
  sorted ← demand out_of_order (is_ordered stage word)
  counted ← demand field_count (length (fields line) == arity word + 1)
  value ← value_of word (fields line)
  placed ← demand misplaced_part (has_room stage.part word)
  sized ← demand hash_length (fits_width stage.width value)
  Ok value
