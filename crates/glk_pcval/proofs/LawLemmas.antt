-- The laws of ranges, values and spellings.
use Rattle.std.proofs.Common.{◌≡◌, ℕ, zero, suc, ◌+◌, ◌-◌, ◌*◌, ◌/◌, ◌%◌, ◌<◌, ◌≤◌, List, [], ◌∷◌, length, get_or, Some, None, cond, sym, ◌∙◌, arith, false, inl, inr, ℤ, subst, sub-one}
use Rattle.std.specs.Prelude.{◌==◌, nat_lt}
use Rattle.std.specs.List.Sorted.{IsNonDecreasingBy}
use Rattle.glk_base.specs.declared.varint.Varint.{Varint}
use Rattle.glk_base.specs.Varint.{varint_of}
use Rattle.glk_base.proofs.VarintLemmas.{bool_cases, with_low_bits, varint_of-nil, varint_of-cons}
use Rattle.glk_pcval.specs.declared.step.State.{State}
use Rattle.glk_pcval.specs.Step.{next_of, longest_varint, number_limit}
use Rattle.glk_pcval.specs.Table.{ranges_from, start}
use Rattle.glk_pcval.specs.Encode.{varint_bytes}
use Rattle.glk_pcval.specs.Laws.{EndsNeverFall, TablesEndThemselves, RangesDecideValues, NoneBeyond, IsShortest}
use Rattle.glk_pcval.proofs.PrefixLemmas.{next_cases, option_cases}
use Rattle.glk_pcval.proofs.SoundLemmas.{cond_some, range_sound, none_beyond, table_read, ranges_alone, value_of-ranges}

-- all ends are at `low` or after it, and never fall
record Rises (low : ℕ) (rs : List (ℤ × ℕ)) : Type 0 where
  above : (i : ℕ) (d : ℤ × ℕ) → i < length rs → low ≤ (get_or rs i d).1
  rises : IsNonDecreasingBy (λ range. range.1) rs

rises_none : (low : ℕ) → Rises low []
rises_none low = record {
  above = λ i d inside. absurd (omega (arith, inside));
  rises = λ i j d below inside. absurd (omega (arith, inside));
}

above_cons : (low end : ℕ) (value : ℤ) (rs : List (ℤ × ℕ)) → low ≤ end → Rises end rs → (i : ℕ) (d : ℤ × ℕ) → i < length ((value, end) ∷ rs) → low ≤ (get_or ((value, end) ∷ rs) i d).1
above_cons low end value rs first rest zero d inside = first
above_cons low end value rs first rest (suc i) d inside = omega (arith, first, rest.above i d (omega (arith, inside)))

rises_cons : (end : ℕ) (value : ℤ) (rs : List (ℤ × ℕ)) → Rises end rs → IsNonDecreasingBy (λ range. range.1) ((value, end) ∷ rs)
rises_cons end value rs rest zero zero d below inside = omega arith
rises_cons end value rs rest zero (suc j) d below inside = rest.above j d (omega (arith, inside))
rises_cons end value rs rest (suc i) zero d below inside = absurd (omega (arith, below))
rises_cons end value rs rest (suc i) (suc j) d below inside = rest.rises i j d (omega (arith, below)) (omega (arith, inside))

ends_rise : (skipped : ℕ) (from : State) (bytes : List ℕ) → Rises from.end (ranges_from skipped from bytes)
unfolding ranges_from
ends_rise skipped from [] = rises_none from.end
ends_rise (suc skipped) from (b ∷ s) = ends_rise skipped from s
ends_rise zero from (b ∷ s) = elim (next_cases (next_of from (b ∷ s))) [
  | inl stop ↦ rw (stop.1, ranges_from) (rises_none from.end)
  | inr (inl bad) ↦ rw (bad.1, ranges_from) (rises_none from.end)
  | inr (inr go) ↦
      let sound = range_sound from go.0 (b ∷ s) go.1 go.2 in
      let rest = ends_rise (go.1 - 1) go.0 s in
      rw (go.2, ranges_from) (record {
        above = above_cons from.end go.0.end go.0.value (ranges_from (go.1 - 1) go.0 s) sound.4 rest;
        rises = rises_cons go.0.end go.0.value (ranges_from (go.1 - 1) go.0 s) rest;
      })
]

pub ends_law : EndsNeverFall
ends_law bytes = (ends_rise 0 start bytes).rises

pub alone_law : TablesEndThemselves
alone_law table tail some is = ranges_alone table tail some (table_read is.0 table is.1).0

pub values_law : RangesDecideValues
values_law a b same off = value_of-ranges a b same off

pub beyond_law : NoneBeyond
beyond_law bytes off high = none_beyond 0 start bytes off high

-- a group of seven bits before a number
group_more : (most low high size : ℕ) → low < 128 → length (varint_bytes most high) ≤ size → length (varint_bytes (suc most) (low + 128 * high)) ≤ size + 1
group_more most low high size small short = elim (bool_cases (nat_lt (low + 128 * high) 128)) [
  | inl last ↦ rw last (omega arith)
  | inr more ↦ let e : (low + 128 * high) / 128 ≡ high = omega (arith, small) in rw (more, e) (omega (arith, short))
]

-- no spelling of a number is shorter
shortest : (most limit : ℕ) (bytes : List ℕ) (v : Varint) → varint_of most limit bytes ≡ Some v → length (varint_bytes most v.value) ≤ v.size
shortest most limit [] v is = absurd (let none : None ≡ Some v = sym (varint_of-nil most limit) ∙ is in cc)
shortest zero limit (b ∷ s) v is = absurd (let none : None ≡ Some v = sym (varint_of-cons zero limit b s) ∙ is in cc)
shortest (suc most) limit (b ∷ s) v is =
    let whole = sym (varint_of-cons (suc most) limit b s) ∙ is in
    let some : (suc most == 0) ≡ false = grind arith in
    let P : Varint → Type 0 = λ w. length (varint_bytes (suc most) w.value) ≤ w.size in
    elim (bool_cases (nat_lt b 128)) [
      | inl last ↦
          let found : cond (nat_lt b limit) (Some (record { value = b; size = 1 })) None ≡ Some v = rw (some, last) at whole in
          let one : length (varint_bytes (suc most) b) ≤ 1 = rw last (omega arith) in
          subst P (cond_some _ _ v found).1 one
      | inr more ↦
          let found : with_low_bits limit (b % 128) (varint_of most limit s) ≡ Some v = rw (some, more, sub-one) at whole in
          elim (option_cases (varint_of most limit s)) [
            | inl none ↦ absurd (let e : None ≡ Some v = rw none at found in cc)
            | inr high ↦
                let w = high.0 in
                let whole_number : cond (nat_lt (b % 128 + 128 * w.value) limit) (Some (record { value = b % 128 + 128 * w.value; size = w.size + 1 })) None ≡ Some v = rw high.1 at found in
                let low : b % 128 < 128 = omega arith in
                subst P (cond_some _ _ v whole_number).1 (group_more most (b % 128) w.value w.size low (shortest most limit s w high.1))
          ]
    ]

pub shortest_law : IsShortest
shortest_law bytes v is = shortest longest_varint number_limit bytes v is
