use Rattle.std.proofs.Common.{◌≡◌, ◌≢◌, ◌<◌, ◌≤◌, ◌∙◌, Option, Some, None, get_or, length, ap, sym, subst, arith}
use Rattle.std.proofs.lemmas.List.{get_or_read}
use Rattle.glk_placing.proofs.PlaceSteps.{none_located, some_located}
use Rattle.glk_placing.specs.Locations.{location, kept_location}
use Rattle.glk_placing.specs.Programs.{PlacedProgram, placed_program}
use Rattle.glk_placing.proofs.placement.Placement.kept_location.Goals as goal

pub returns-then-section-eq0-clause-value : goal.returns-then-section-eq0-clause-value
returns-then-section-eq0-clause-value c =
    let s = placed_program c.self.inside.merged.now.program c.self.inside.kept.now c.self.inside.made c.self.inside.tables in
    let long : length c.self.inside.kept.now ≡ length c.args.self.now.kept = ap (λ (q : PlacedProgram). length q.kept) c.self.view_is in
    let index = c.requires in
    let lt : c.args.i < length c.self.inside.kept.now = omega (arith, long, index) in
    let listed = c.self.invariant.locations.sections_long in
    let section = get_or c.self.inside.sections.items c.args.i 0 in
    let address = get_or c.self.inside.addresses.items c.args.i 0 in
    let read : c.index-section.result.now ≡ get_or c.self.inside.sections.items c.args.i 0 = get_or_read c.self.inside.sections.items c.args.i c.index-section.result.now (omega (arith, lt, listed)) c.index-section.ensures 0 in
    let P : PlacedProgram → Type 0 = λ q. None ≡ kept_location q c.args.i in
    subst P c.self.view_is (none_located s c.args.i section address (c.self.invariant.locations.each c.args.i lt) (sym read ∙ c.if-section-eq0.true))

pub returns-clause-value : goal.returns-clause-value
returns-clause-value c =
    let s = placed_program c.self.inside.merged.now.program c.self.inside.kept.now c.self.inside.made c.self.inside.tables in
    let long : length c.self.inside.kept.now ≡ length c.args.self.now.kept = ap (λ (q : PlacedProgram). length q.kept) c.self.view_is in
    let index = c.requires in
    let lt : c.args.i < length c.self.inside.kept.now = omega (arith, long, index) in
    let listed = c.self.invariant.locations.sections_long in
    let addressed = c.self.invariant.locations.addresses_long in
    let section = get_or c.self.inside.sections.items c.args.i 0 in
    let address = get_or c.self.inside.addresses.items c.args.i 0 in
    let read : c.index-section.result.now ≡ get_or c.self.inside.sections.items c.args.i 0 = get_or_read c.self.inside.sections.items c.args.i c.index-section.result.now (omega (arith, lt, listed)) c.index-section.ensures 0 in
    let there : c.index-address.result.now ≡ get_or c.self.inside.addresses.items c.args.i 0 = get_or_read c.self.inside.addresses.items c.args.i c.index-address.result.now (omega (arith, lt, addressed)) c.index-address.ensures 0 in
    let P : PlacedProgram → Type 0 = λ q. Some (location c.index-section.result.now c.index-address.result.now) ≡ kept_location q c.args.i in
    subst P c.self.view_is ((λ z. Some (location (read z) (there z)))
    ∙ some_located s c.args.i section address (c.self.invariant.locations.each c.args.i lt) (λ e. c.if-section-eq0.false (read ∙ e)))

pub returns-clause-within : goal.returns-clause-within
returns-clause-within c =
    let long : length c.self.inside.kept.now ≡ length c.args.self.now.kept = ap (λ (q : PlacedProgram). length q.kept) c.self.view_is in
    let index = c.requires in
    let lt : c.args.i < length c.self.inside.kept.now = omega (arith, long, index) in
    let listed = c.self.invariant.locations.sections_long in
    let addressed = c.self.invariant.locations.addresses_long in
    let read : c.index-section.result.now ≡ get_or c.self.inside.sections.items c.args.i 0 = get_or_read c.self.inside.sections.items c.args.i c.index-section.result.now (omega (arith, lt, listed)) c.index-section.ensures 0 in
    let there : c.index-address.result.now ≡ get_or c.self.inside.addresses.items c.args.i 0 = get_or_read c.self.inside.addresses.items c.args.i c.index-address.result.now (omega (arith, lt, addressed)) c.index-address.ensures 0 in
    let within = c.self.invariant.locations.within c.args.i lt in
    let low = c.self.invariant.locations.low c.args.i lt in
    let other : c.index-section.result.now ≢ 0 = c.if-section-eq0.false in
    record { from = omega (arith, other); to = omega (arith, read, within); low = omega (arith, there, low) }
