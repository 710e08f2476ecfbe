-- No address of a section is too great.
use Rattle.std.proofs.Common.{◌≡◌, ◌∙◌, ℕ, zero, suc, ◌+◌, ◌-◌, ◌^◌, ◌<◌, ◌≤◌, inl, inr, List, length, Bool, true, false, Option, Some, None, nat_lt, refl, ap, sym, subst, arith}
use Rattle.std.specs.Prelude.{◌==◌, map, if◌then◌else◌}
use Rattle.std.proofs.lemmas.Bool.{cases_lt}
use Rattle.std.proofs.lemmas.Bool.Decides.{nat_tests}
use Rattle.glk_base.specs.Limits.{file_limit}
use Rattle.glk_elf.specs.Sections.{text, rodata, bss, noptrbss, tbss, placed_sections}
use Rattle.glk_elf.specs.Placing.{address_limit, names_limit, of_section}
use Rattle.glk_layout.specs.Sections.{AreRanges}
use Rattle.std.specs.Option.{option_map_or}
use Rattle.std.proofs.lemmas.Bool.{eq-eqb}
use Rattle.std.proofs.lemmas.List.{length-map}
use Rattle.glk_layout.proofs.Boxing.{end_append}
use Rattle.glk_layout.proofs.InOrder.{boxes_in_order, symbols_in_order, sections_in_order, end_rises, home_known}
use Rattle.glk_layout.proofs.SectionSteps.{made_aligned, end_next}
use Rattle.glk_layout.specs.Boxes.{Box, end_after}
use Rattle.glk_layout.specs.Symbols.{is_in, home_of, boxes_in}
use Rattle.glk_layout.specs.declared.input.KeptSymbol.{KeptSymbol}
use Rattle.glk_layout.specs.Layout.{made_box, made_address, symbol_at, address_within, section_start, section_end, section_address, section_size, IsPlaceable}
use Rattle.glk_layout.specs.Limits.{excess, file_end, last_address}
use Rattle.glk_layout.specs.Placed.{PlacedContents}
use Rattle.glk_layout.specs.declared.limits.TooLarge.{TooLarge}
use Rattle.glk_placing.specs.Programs.{thread_limit}

second_none : (a b : Bool) (x y : TooLarge) (rest : Option TooLarge) → (if a then Some x else (if b then Some y else rest)) ≡ None → b ≡ false
second_none true b x y rest e = absurd (let bad : Some x ≡ None = e in cc)
second_none false true x y rest e = absurd (let bad : Some y ≡ None = e in cc)
second_none false false x y rest e = refl

pub last_small : (c : PlacedContents) → excess c ≡ None → last_address c ≤ address_limit
unfolding excess
last_small c e =
    let low : nat_lt address_limit (last_address c) ≡ false = second_none _ _ _ _ _ e in
    grind (arith, nat_tests)

pub ends_up : (c : PlacedContents) (n d : ℕ) → IsPlaceable c → section_end c n ≤ section_end c (n + d)
ends_up c n zero p =
    let P : ℕ → Type 0 = λ m. section_end c n ≤ section_end c m in
    let same : section_end c n ≤ section_end c n = omega arith in
    let e : n ≡ n + zero = omega arith in
    subst P e same
ends_up c n (suc d) p =
    let P : ℕ → Type 0 = λ m. section_end c n ≤ section_end c m in
    let before = ends_up c n d p in
    let next = end_rises c (n + d) p in
    let both : section_end c n ≤ section_end c (suc (n + d)) = omega (arith, before, next) in
    let e : suc (n + d) ≡ n + suc d = omega arith in
    subst P e both

pub at_home : (s : KeptSymbol) (n : ℕ) → home_of s ≡ Some n → is_in n s ≡ true
unfolding is_in
at_home s n home = ap (λ o. option_map_or (λ h. h == n) o false) home ∙ (let t : (n == n) ≡ true = eq-eqb n n refl in t)

pub end_small : (c : PlacedContents) (n : ℕ) → IsPlaceable c → excess c ≡ None → n ≤ noptrbss → section_end c n ≤ 2 ^ 40
end_small c n p none high =
    let P : ℕ → Type 0 = λ m. section_end c n ≤ section_end c m in
    let e : n + (noptrbss - n) ≡ noptrbss = omega arith in
    let up : section_end c n ≤ section_end c noptrbss = subst P e (ends_up c n (noptrbss - n) p) in
    let last = last_small c none in
    omega (arith, up, last)

pub range_small : (c : PlacedContents) (n : ℕ) → IsPlaceable c → excess c ≡ None → c.tables.tbss ≤ thread_limit → text ≤ n → n ≤ placed_sections
    → section_address c n + section_size c n ≤ 2 ^ 49
range_small c n p none tls low high =
    elim (cases_lt n tbss) [
      | inl placed ↦
          let other : (n == tbss) ≡ false = grind (arith, nat_tests) in
          let order = (sections_in_order c n p low (omega arith)).0 in
          let small = end_small c n p none (omega arith) in
          let whole : section_start c n + (section_end c n - section_start c n) ≤ 2 ^ 49 = omega (arith, order, small) in
          rw other whole
      | inr last ↦
          let here : (n == tbss) ≡ true = grind (arith, nat_tests) in
          let order = (sections_in_order c bss p (omega arith) (omega arith)).0 in
          let small = end_small c bss p none (omega arith) in
          let whole : section_start c bss + c.tables.tbss ≤ 2 ^ 49 = omega (arith, order, small, tls) in
          rw here whole
    ]

-- the last section that takes addresses ends at most at their limit
pub sections_end : (c : PlacedContents) (addrs sizes : List ℕ) → IsPlaceable c → excess c ≡ None → AreRanges c addrs sizes
    → of_section addrs noptrbss + of_section sizes noptrbss ≤ address_limit
sections_end c addrs sizes p none are =
    let order = (sections_in_order c noptrbss p (omega arith) (omega arith)).0 in
    let small = end_small c noptrbss p none (omega arith) in
    let a : of_section addrs noptrbss ≡ section_start c noptrbss = are.addrs_at noptrbss (omega arith) (omega arith) in
    let b : of_section sizes noptrbss ≡ section_end c noptrbss - section_start c noptrbss = are.sizes_at noptrbss (omega arith) (omega arith) in
    omega (arith, order, small, a, b)

-- Symbols and made contents are within their sections.

pub symbol_small : (c : PlacedContents) (n i : ℕ) → IsPlaceable c → excess c ≡ None → i < length c.symbols → home_of (symbol_at c i) ≡ Some n
    → address_within c n i ≤ 2 ^ 40
symbol_small c n i p none lt home =
    let known = home_known (symbol_at c i) n home in
    let here : is_in n (symbol_at c i) ≡ true = at_home (symbol_at c i) n home in
    let inside = (symbols_in_order c n p known.0 known.1).to i lt here in
    let small = end_small c n p none known.1 in
    omega (arith, inside, small)

pub made_small : (c : PlacedContents) (i : ℕ) → IsPlaceable c → excess c ≡ None → i < length c.made → made_address c i ≤ 2 ^ 40
made_small c i p none lt =
    let boxes : List Box = map made_box c.made in
    let long : length boxes ≡ length c.made = length-map c.made made_box in
    let start : ℕ = section_start c rodata in
    let symbols : List Box = boxes_in rodata c.symbols in
    let inside = (boxes_in_order (end_after start symbols) boxes (made_aligned c rodata p)).to i (omega arith) in
    let joined : section_end c rodata ≡ end_after (end_after start symbols) boxes = end_next c 1 ∙ end_append start symbols boxes in
    let small = end_small c rodata p none (omega arith) in
    omega (arith, inside, joined, small)
