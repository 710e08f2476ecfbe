-- There is one archive of a file, and one object in a body.
use Rattle.std.proofs.Common.{◌≡◌, ℕ, ◌+◌, ◌<◌, List, [], ◌∷◌, length, drop, Option, Some, None, Result, Ok, Err, ap, sym, refl, ◌∙◌, inl, inr, arith}
use Rattle.std.proofs.lemmas.Bool.{cases_order}
use Rattle.glk_ar.specs.declared.walk.ArBad.{ArBad}
use Rattle.glk_ar.specs.Member.{BreaksFirst, rule_offset}
use Rattle.glk_ar.specs.Part.{Part, mark, IsFirstMark, HoldsPart}
use Rattle.glk_ar.specs.Archive.{Entry, IsRefused, IsRun, after, first_offset, Archive}

-- of the broken rules one has the least number
pub one_broken : (s : List ℕ) (one other : ℕ) → BreaksFirst s one → BreaksFirst s other → one ≡ other
one_broken s one other first second = elim (cases_order one other) [
  | inl same ↦ same
  | inr (inl less) ↦ absurd (first.0 (second.1 one less))
  | inr (inr more) ↦ absurd (second.0 (first.1 other more))
]

pub one_refusal : (b : List ℕ) (p : ℕ) (one other : ArBad) → IsRefused b p one → IsRefused b p other → one ≡ other
one_refusal b p one other first second =
    let rule : one.rule ≡ other.rule = one_broken (drop p b) one.rule other.rule first.rule second.rule in
    let offset : one.offset ≡ other.offset = first.offset ∙ ap (λ r. p + rule_offset r) rule ∙ sym second.offset in
    let by_rule : ℕ → ArBad = λ r. record { rule = r; offset = one.offset } in
    let by_offset : ℕ → ArBad = λ o. record { rule = other.rule; offset = o } in
    ap by_rule rule ∙ ap by_offset offset

-- A run is the only one, with its end.
pub record IsSameRun (one other : List Entry) (last end : Option ArBad) : Type 0 where
  pub members : one ≡ other
  pub ends : last ≡ end

pub one_run : (b : List ℕ) (p : ℕ) (one other : List Entry) (last end : Option ArBad) → IsRun b p one last → IsRun b p other end → IsSameRun one other last end
one_run b p [] [] None None first second = record { members = refl; ends = refl }
one_run b p [] [] None (Some bad) first second = let inside : p < length b = second.inside in absurd (omega arith)
one_run b p [] [] (Some bad) None first second = let inside : p < length b = first.inside in absurd (omega arith)
one_run b p [] [] (Some bad) (Some worse) first second = record { members = refl; ends = ap (λ r. Some r) (one_refusal b p bad worse first second) }
one_run b p [] (e ∷ es) None end first second = let inside : p < length b = second.0.inside in absurd (omega arith)
one_run b p [] (e ∷ es) (Some bad) end first second = absurd (first.rule.0 (second.0.member bad.rule))
one_run b p (e ∷ es) [] last None first second = let inside : p < length b = first.0.inside in absurd (omega arith)
one_run b p (e ∷ es) [] last (Some bad) first second = absurd (second.rule.0 (first.0.member bad.rule))
one_run b p (e ∷ es) (d ∷ ds) last end first second =
    let rest : IsSameRun es ds last end = one_run b (after b p) es ds last end first.1 second.1 in
    let here : e ≡ d = first.0.entry ∙ sym second.0.entry in
    let members : es ≡ ds = rest.members in
    record { members = cc; ends = rest.ends }

pub one_archive : (b : List ℕ) (one other : Result (List Entry) ArBad) → Archive b one → Archive b other → one ≡ other
one_archive b (Ok es) (Ok ds) first second = ap (λ r. Ok r) (one_run b first_offset es ds None None first.1 second.1).members
one_archive b (Ok es) (Err bad) first (inl none) = absurd (none.0 first.0)
one_archive b (Ok es) (Err bad) first (inr run) = let same : IsSameRun es run.1 None (Some bad) = one_run b first_offset es run.1 None (Some bad) first.1 run.2 in let none : Option ArBad = None in let e : none ≡ Some bad = same.ends in cc
one_archive b (Err bad) (Ok es) (inl none) second = absurd (none.0 second.0)
one_archive b (Err bad) (Ok es) (inr run) second = let same : IsSameRun es run.1 None (Some bad) = one_run b first_offset es run.1 None (Some bad) second.1 run.2 in let none : Option ArBad = None in let e : none ≡ Some bad = same.ends in cc
one_archive b (Err bad) (Err worse) (inl none) (inl other) = ap (λ r. Err r) (none.1 ∙ sym other.1)
one_archive b (Err bad) (Err worse) (inl none) (inr run) = absurd (none.0 run.0)
one_archive b (Err bad) (Err worse) (inr run) (inl none) = absurd (none.0 run.0)
one_archive b (Err bad) (Err worse) (inr run) (inr other) =
    let same : IsSameRun run.1 other.1 (Some bad) (Some worse) = one_run b first_offset run.1 other.1 (Some bad) (Some worse) run.2 other.2 in
    let e : Some bad ≡ Some worse = same.ends in
    let f : bad ≡ worse = cc in
    ap (λ r. Err r) f

-- the first mark is the only one that is first
one_mark : (body : List ℕ) (one other : ℕ) → IsFirstMark body one → IsFirstMark body other → one ≡ other
one_mark body one other first second = elim (cases_order one other) [
  | inl same ↦ same
  | inr (inl less) ↦ absurd (second.earlier one less first.here)
  | inr (inr more) ↦ absurd (first.earlier other more second.here)
]

pub one_part : (body : List ℕ) (one other : Part) → HoldsPart body one → HoldsPart body other → one ≡ other
one_part body one other first second =
    let marks : first.mark_at ≡ second.mark_at = one_mark body first.mark_at second.mark_at first.first second.first in
    let at : one.at ≡ other.at = first.at ∙ ap (λ m. m + length mark) marks ∙ sym second.at in
    let goobj : one.goobj ≡ other.goobj = first.goobj ∙ ap (λ k. drop k body) at ∙ sym second.goobj in
    let line : one.line ≡ other.line = first.line ∙ sym second.line in
    let by_line : List ℕ → Part = λ l. record { line = l; goobj = one.goobj; at = one.at } in
    let by_goobj : List ℕ → Part = λ g. record { line = other.line; goobj = g; at = one.at } in
    let by_at : ℕ → Part = λ k. record { line = other.line; goobj = other.goobj; at = k } in
    ap by_line line ∙ ap by_goobj goobj ∙ ap by_at at
