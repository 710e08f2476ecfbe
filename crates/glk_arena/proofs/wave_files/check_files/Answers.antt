use Rattle.std.proofs.Common.{◌≡◌, ◌∙◌, List, [], ℕ, length, sym, arith, rules}
use Rattle.std.proofs.lemmas.List.{ext_get_or}
use Rattle.glk_arena.proofs.wave_files.check_files.Goals as goal

pub returns-then-are_shared : goal.returns-then-are_shared
returns-then-are_shared g c =
    let now : List (List ℕ) = c.par_for_each_mut.new.s in
    let before : List (List ℕ) = c.make_contiguous.result.now in
    let long : length now ≡ length before = search rules in
    let same : now ≡ before = ext_get_or [] now before long (λ i l. let at = (c.par_for_each_mut.ensures i [] (omega (arith, long, l))).1 in sym at.left ∙ at.call ∙ at.argument_is) in
    c.make_contiguous.ensures.writes_back now (long ∙ c.make_contiguous.ensures.len) ∙ same ∙ c.make_contiguous.ensures.value
