-- The data of a definition are among those of its object.
use Rattle.std.proofs.Common.{◌≡◌, ℕ, ◌+◌, ◌-◌, ◌<◌, ◌≤◌, List, length, refl, ap, sym, subst, arith}
use Rattle.glk_arena.specs.World.{objects_of}
use Rattle.glk_base.specs.Groups.{group_of, group_start}
use Rattle.glk_obj.proofs.Laws.{data_measures, object_tables}
use Rattle.glk_obj.specs.Blocks.{count, contents, data_idx}
use Rattle.glk_obj.specs.Object.{IsObject}
use Rattle.glk_obj.specs.Records.{symbols, definitions, data_at, data_index, data_length}
use Rattle.glk_keys.proofs.ContentLaws.{definition_of_object, definition_index, content_of}
use Rattle.glk_keys.specs.Programs.{Program}
use Rattle.glk_keys.specs.RowLaws.{row_of_object}
use Rattle.glk_keys.specs.Rows.{Row, object_at, object_row, row_at}
use Rattle.glk_merge.specs.Mergings.{IsDefinitionRow}

data_inside : (b : List ℕ) (i : ℕ) → IsObject b → i < definitions b → length (data_at b i) ≤ count b contents
data_inside b i object inside =
    let long : length (data_at b i) ≡ data_length b i = data_measures b i object inside in
    let within : data_index b (i + 1) ≤ count b contents = (object_tables b object).within data_idx (i + 1) (omega arith, omega arith) (omega arith) in
    omega arith

pub content_within : (p : Program) (r : ℕ) → IsDefinitionRow p r → IsObject (object_at p (row_at p r).object) → length (row_at p r).content ≤ count (object_at p (row_at p r).object) contents
content_within p r d object =
    let objects = objects_of p.world in
    let n = group_of symbols objects r in
    let i = r - group_start symbols objects n in
    let is : row_at p r ≡ object_row n (object_at p n) i = row_of_object p r n i (definition_of_object p r d.row d.definition) refl refl in
    let same : (row_at p r).object ≡ n = ap (λ (row : Row). row.object) is in
    let P : ℕ → Type 0 = λ m. IsObject (object_at p m) in
    let Q : ℕ → Type 0 = λ m. length (row_at p r).content ≤ count (object_at p m) contents in
    let data_is : (row_at p r).content ≡ data_at (object_at p n) i = content_of p r n i (object_at p n) refl is d.definition in
    let R : List ℕ → Type 0 = λ x. length x ≤ count (object_at p n) contents in
    subst Q (sym same) (subst R (sym data_is) (data_inside (object_at p n) i (subst P same object) (definition_index p r n i is d.definition)))
