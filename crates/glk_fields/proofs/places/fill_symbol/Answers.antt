use Rattle.std.proofs.Common.{◌≡◌, ◌∙◌, ℕ, List, [], Some, false, get_or, ap, sym}
use Rattle.glk_keys.specs.Definitions.{chosen_of}
use Rattle.glk_keys.specs.Programs.{Program}
use Rattle.glk_keys.specs.Rows.{row_at, is_definition}
use Rattle.glk_placing.specs.Locations.{kept_location}
use Rattle.glk_placing.specs.Programs.{PlacedProgram, key_at}
use Rattle.glk_placing.specs.declared.location.Location.{Location}
use Rattle.glk_fields.specs.Places.{symbol_places, row_places}
use Rattle.glk_fields.proofs.FieldSteps.{found, places_of_symbol, ordered_none}
use Rattle.glk_fields.proofs.PlaceLists.{no_places}
use Rattle.glk_fields.proofs.places.fill_symbol.Goals as goal

pub returns-then-not-is_def-clause-ordered : goal.returns-then-not-is_def-clause-ordered
returns-then-not-is_def-clause-ordered c =
    let s = c.args.values.now in
    let i = c.args.i in
    let r = c.in-Some.id.0 in
    let l : Location = c.in-Some-kept_location.location in
    let same : c.merged-merged.result.now.program ≡ c.args.values.now.program =
    c.merged-merged.ensures ∙ ap (λ (q : PlacedProgram). q.program) c.placement-placement.ensures in
    let listed : c.kept.result.now ≡ c.args.values.now.kept = c.kept.ensures.value ∙ ap (λ (q : PlacedProgram). q.kept) c.placement-placement.ensures in
    let key : get_or c.kept.result.now c.args.i 0 ≡ key_at c.args.values.now c.args.i = ap (λ (xs : List ℕ). get_or xs c.args.i 0) listed in
    let chosen : chosen_of c.args.values.now.program (key_at c.args.values.now c.args.i) ≡ Some c.in-Some.id.0 =
    ap (λ (p : Program). chosen_of p (key_at c.args.values.now c.args.i)) (sym same)
    ∙ (ap (λ (k : ℕ). chosen_of c.merged-merged.result.now.program k) (sym key) ∙ sym c.in-Some.ensures.value) in
    let at : kept_location c.args.values.now c.args.i ≡ Some c.in-Some-kept_location.location =
    ap (λ (q : PlacedProgram). kept_location q c.args.i) (sym c.placement-placement.ensures) ∙ sym c.in-Some-kept_location.ensures.value in
    let none : is_definition (row_at c.args.values.now.program c.in-Some.id.0) ≡ false =
    ap (λ (p : Program). is_definition (row_at p c.in-Some.id.0)) (sym same) ∙ (sym c.is_def.ensures ∙ c.if-not-is_def.true) in
    ordered_none (symbol_places s i) c.clear.new.self.items
    (places_of_symbol s i ∙ (found s i (row_places s i) [] r l chosen at ∙ no_places s i r l.address none)) c.clear.ensures.items
