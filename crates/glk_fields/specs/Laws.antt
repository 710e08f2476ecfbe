-- What holds of the fields of every image: a law of the definitions.
use Rattle.std.specs.Prelude.{All, List}
use Rattle.glk_layout.specs.Layout.{IsPlaceable}
use Rattle.glk_merge.specs.Mergings.{IsKey}
use Rattle.glk_placing.specs.Programs.{PlacedProgram, contents_of}
use Rattle.glk_fields.specs.declared.places.FieldPlace.{FieldPlace}
use Rattle.glk_fields.specs.Places.{AreFieldPlaces, fields_at}
use Rattle.glk_fields.specs.Ready.{AreSoundKeys, EndsInside, AreWritable}

-- where no relocation of a kept symbol is at fault, the fields can be written: each has a size and is within a section of the
-- file, and they rise and share no byte
abbrev pub AreFieldsWritable : Type 0
AreFieldsWritable =
    (s : PlacedProgram) (places : List FieldPlace) → IsPlaceable (contents_of s) → All (IsKey s.program) s.kept → AreSoundKeys s
    → AreFieldPlaces s places → All (EndsInside s) places → AreWritable s (fields_at s places)
