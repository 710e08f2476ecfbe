use Rattle.std.proofs.Common.{◌≡◌, ℕ, List, ◌∷◌, ◌++◌, sym, ap, ◌∙◌, subst}
use Rattle.std.proofs.lemmas.List.Elements.{Contains-append_right}
use Rattle.glk_table.specs.Seats.{HasPlace, view_of}
use Rattle.glk_table.proofs.Members.{here}
use Rattle.glk_table.proofs.tests.the_least_id_and_rank_of_two_seats_win.Goals as goal

placed : (l m : List (ℕ × ℕ)) (id p : ℕ) → l ≡ (id, p) ∷ m → HasPlace l p
placed l m id p is = let P : List (ℕ × ℕ) → Type 0 = λ k. HasPlace k p in subst P (sym is) (id, here (id, p) m)

pub offer-requires-clause-place : goal.offer-requires-clause-place
offer-requires-clause-place g c = placed _ _ 0 c.enter-here.result c.enter-here.ensures.entered.entered_is

pub offer-requires-2-clause-place : goal.offer-requires-2-clause-place
offer-requires-2-clause-place g c = placed _ _ 2 c.enter-there.result c.enter-there.ensures.entered.entered_is

pub key-requires : goal.key-requires
key-requires g c =
    let p = c.enter-there.result in
    let mine = (view_of c.offer.new.seat).entered in
    let theirs = c.offer-2.ensures.offered.entered_is ∙ c.enter-there.ensures.entered.entered_is in
    let lists = ap (λ e. e.entered) c.in_ok-elected.ensures.lists ∙ (ap (λ v. v.entered) c.rejoin.ensures.both ∙ ap (λ (l : List (ℕ × ℕ)). mine ++ l) theirs) in
    let P : List (ℕ × ℕ) → Type 0 = λ l. HasPlace l p in
    subst P (sym lists) (2, Contains-append_right mine _ (2, p) (here (2, p) _))
