use Rattle.std.proofs.Common.{◌≡◌, ◌<◌, ◌∙◌, false, Bool, Some, None, get_or, length, ap, sym, subst, arith}
use Rattle.std.proofs.lemmas.List.{get_or_read}
use Rattle.glk_layout.specs.Symbols.{is_in}
use Rattle.glk_placing.proofs.PlaceSteps.{other_section, no_definition, by_definition}
use Rattle.glk_placing.specs.KeptSymbols.{kept_symbol}
use Rattle.glk_placing.specs.Programs.{PlacedProgram, key_at, placed_program}
use Rattle.glk_placing.proofs.placement.Placement.holds.Goals as goal

pub returns-then-index-number : goal.returns-then-index-number
returns-then-index-number c =
    let s = placed_program c.self.inside.merged.now.program c.self.inside.kept.now c.self.inside.made c.self.inside.tables in
    let long : length c.self.inside.kept.now ≡ length c.args.self.now.kept = ap (λ (q : PlacedProgram). length q.kept) c.self.view_is in
    let index = c.requires.index in
    let lt : c.args.i < length c.self.inside.kept.now = omega (arith, long, index) in
    let listed = c.self.invariant.locations.sections_long in
    let section = get_or c.self.inside.sections.items c.args.i 0 in
    let address = get_or c.self.inside.addresses.items c.args.i 0 in
    let read : c.index.result.now ≡ get_or c.self.inside.sections.items c.args.i 0 = get_or_read c.self.inside.sections.items c.args.i c.index.result.now (omega (arith, lt, listed)) c.index.ensures 0 in
    let at = c.self.invariant.locations.each c.args.i lt in
    let P : PlacedProgram → Type 0 = λ q. false ≡ is_in c.args.number (kept_symbol q.program (key_at q c.args.i)) in
    subst P c.self.view_is (sym (other_section s c.args.number c.args.i section address c.requires.number lt at (λ e. c.if-index-number.true (read ∙ e))))

pub returns-in-Some : goal.returns-in-Some
returns-in-Some c =
    let s = placed_program c.self.inside.merged.now.program c.self.inside.kept.now c.self.inside.made c.self.inside.tables in
    let long : length c.self.inside.kept.now ≡ length c.args.self.now.kept = ap (λ (q : PlacedProgram). length q.kept) c.self.view_is in
    let index = c.requires.index in
    let lt : c.args.i < length c.self.inside.kept.now = omega (arith, long, index) in
    let listed = c.self.invariant.locations.sections_long in
    let section = get_or c.self.inside.sections.items c.args.i 0 in
    let address = get_or c.self.inside.addresses.items c.args.i 0 in
    let read : c.index.result.now ≡ get_or c.self.inside.sections.items c.args.i 0 = get_or_read c.self.inside.sections.items c.args.i c.index.result.now (omega (arith, lt, listed)) c.index.ensures 0 in
    let at = c.self.invariant.locations.each c.args.i lt in
    let P : PlacedProgram → Type 0 = λ q. c.is_def.result ≡ is_in c.args.number (kept_symbol q.program (key_at q c.args.i)) in
    subst P c.self.view_is (c.is_def.ensures
    ∙ by_definition s c.args.number c.args.i section address c.requires.number lt at c.in-Some.id.0 (sym read ∙ c.if-index-number.false) (sym (c.in-Some.ensures {u = tt}).value))

pub returns-in-None : goal.returns-in-None
returns-in-None c =
    let s = placed_program c.self.inside.merged.now.program c.self.inside.kept.now c.self.inside.made c.self.inside.tables in
    let long : length c.self.inside.kept.now ≡ length c.args.self.now.kept = ap (λ (q : PlacedProgram). length q.kept) c.self.view_is in
    let index = c.requires.index in
    let lt : c.args.i < length c.self.inside.kept.now = omega (arith, long, index) in
    let listed = c.self.invariant.locations.sections_long in
    let section = get_or c.self.inside.sections.items c.args.i 0 in
    let address = get_or c.self.inside.addresses.items c.args.i 0 in
    let read : c.index.result.now ≡ get_or c.self.inside.sections.items c.args.i 0 = get_or_read c.self.inside.sections.items c.args.i c.index.result.now (omega (arith, lt, listed)) c.index.ensures 0 in
    let at = c.self.invariant.locations.each c.args.i lt in
    let P : PlacedProgram → Type 0 = λ q. false ≡ is_in c.args.number (kept_symbol q.program (key_at q c.args.i)) in
    let none = (c.in-None.ensures {u = tt}).value in
    subst P c.self.view_is (sym (no_definition s c.args.number c.args.i section address c.requires.number lt at (λ r found. absurd (let bad : None ≡ Some r = none ∙ found in cc))))
