-- What is placed of a program may be placed.
use Rattle.std.proofs.Common.{◌≡◌, ℕ, ◌+◌, ◌^◌, ◌<◌, ◌≤◌, List, [], ◌∷◌, length, sym, subst, arith}
use Rattle.std.specs.Prelude.{All, map}
use Rattle.std.specs.List.{sum_by}
use Rattle.std.proofs.lemmas.List.{length-map}
use Rattle.std.proofs.lemmas.List.Elements.{All-nil, All-cons}
use Rattle.glk_layout.specs.Layout.{IsPlaceable, table_limit}
use Rattle.glk_layout.specs.Placed.{PlacedContents}
use Rattle.glk_layout.specs.declared.input.KeptSymbol.{KeptSymbol}
use Rattle.glk_layout.specs.declared.input.MadeContent.{MadeContent}
use Rattle.glk_layout.specs.declared.input.Tables.{Tables}
use Rattle.glk_placing.specs.KeptSymbols.{kept_symbol, kept_symbols}
use Rattle.glk_placing.specs.Programs.{PlacedProgram, AreSmall, contents_of, made_list, made_content, list_align, table_align, no_align}
use Rattle.glk_placing.specs.declared.made.MadeSizes.{MadeSizes}

abbrev pub contents_with : List KeptSymbol → List MadeContent → Tables → PlacedContents
contents_with symbols made tables = record { symbols = symbols; made = made; tables = tables }

abbrev IsAligned : MadeContent → Type 0
IsAligned m = 0 < m.align

all_aligned : (m : MadeSizes) → All IsAligned (made_list m)
all_aligned m =
    let eight : 0 < list_align = omega arith in
    let four : 0 < table_align = omega arith in
    let one : 0 < no_align = omega arith in
    let pointers : List MadeContent = made_content no_align m.pointers ∷ [] in
    let buckets : List MadeContent = made_content table_align m.findfunctab ∷ pointers in
    let trees : List MadeContent = made_content table_align m.trees ∷ buckets in
    let runtime : List MadeContent = made_content list_align m.runtime_tasks ∷ trees in
    All-cons IsAligned (made_content list_align m.main_tasks) runtime eight
    (All-cons IsAligned (made_content list_align m.runtime_tasks) trees eight
    (All-cons IsAligned (made_content table_align m.trees) buckets four
    (All-cons IsAligned (made_content table_align m.findfunctab) pointers four
    (All-cons IsAligned (made_content no_align m.pointers) [] one (All-nil IsAligned)))))

sum_small : (m : MadeSizes) (t : Tables) → AreSmall m t → sum_by (λ (c : MadeContent). c.align + c.size) (made_list m) ≤ table_limit
sum_small m t small =
    let a = small.main_tasks in
    let b = small.runtime_tasks in
    let c = small.trees in
    let d = small.findfunctab in
    let e = small.pointers in
    omega (arith, a, b, c, d, e)

pub placeable : (s : PlacedProgram) → length s.kept ≤ 2 ^ 24 → AreSmall s.made s.tables → IsPlaceable (contents_of s)
placeable s few small = record {
  few = let long = length-map s.kept (kept_symbol s.program) in omega (arith, long, few);
  aligned = all_aligned s.made;
  made = sum_small s.made s.tables small;
  typelink = small.typelink;
  itablink = small.itablink;
  gopclntab = small.gopclntab;
  go_module = small.go_module;
}

-- what is placed of a program, by its parts
pub placed_is : (s : PlacedProgram) (symbols : List KeptSymbol) (made : List MadeContent) → symbols ≡ kept_symbols s.program s.kept → made ≡ made_list s.made
    → contents_with symbols made s.tables ≡ contents_of s
placed_is s symbols made e f = λ z. contents_with (e z) (f z) s.tables

pub parts_placeable : (s : PlacedProgram) (symbols : List KeptSymbol) (made : List MadeContent) → symbols ≡ kept_symbols s.program s.kept → made ≡ made_list s.made
    → length s.kept ≤ 2 ^ 24 → AreSmall s.made s.tables → IsPlaceable (contents_with symbols made s.tables)
parts_placeable s symbols made e f few small = subst IsPlaceable (sym (placed_is s symbols made e f)) (placeable s few small)
