-- Boxes, symbols and sections are in order.
use Rattle.std.proofs.Common.{◌≡◌, ℕ, zero, suc, ◌+◌, ◌-◌, ◌<◌, ◌≤◌, inl, inr, List, length, take, get_or, Bool, true, false, Option, Some, None, nat_le, refl, sym, ap, ◌∙◌, subst, arith, add-zero}
use Rattle.std.specs.Prelude.{replicate, All, if◌then◌else◌, ◌==◌}
use Rattle.std.specs.Option.{option_map, option_map_or}
use Rattle.std.proofs.lemmas.Bool.{cases_lt}
use Rattle.std.proofs.lemmas.Bool.Decides.{nat_tests}
use Rattle.std.proofs.lemmas.List.{take_all, length-replicate, get_or-replicate}
use Rattle.glk_obj.specs.declared.symbols.SymKind.{SymKind}
use Rattle.glk_obj.specs.declared.symbols.SymKind.TheVariants.{Text, Rodata, NoptrData, Data, Bss, NoptrBss, TlsBss}
use Rattle.glk_elf.specs.Sections.{text, rodata, written_data, bss, noptrbss, tbss}
use Rattle.glk_elf.specs.Placing.{text_start, of_section}
use Rattle.glk_layout.specs.declared.input.KeptSymbol.{KeptSymbol}
use Rattle.glk_layout.specs.Placed.{PlacedContents}
use Rattle.glk_layout.specs.declared.placing.Layout.{Layout}
use Rattle.glk_layout.specs.Boxes.{Box, no_box, box_end, end_after}
use Rattle.glk_layout.specs.Symbols.{is_in, home_of, section_of_kind, box_of, boxes_in, alignment_of, room_of}
use Rattle.glk_layout.specs.Layout.{no_symbol, made_boxes, section_boxes, section_start, section_end, symbol_at, address_within, symbol_address, address_at, end_before, made_address, IsPlaceable, IsLayout}
use Rattle.glk_layout.specs.Sections.{AreRanges}
use Rattle.glk_layout.specs.Steps.{address_by, ArePlacedTo}
use Rattle.glk_layout.specs.Laws.{AreInOrder, BoxesAreInOrder, AreSymbolsInOrder, AreSectionsInOrder, TextEnds}
use Rattle.glk_layout.proofs.Boxing.{from_is_least, address_above, end_none, end_above, end_append, end_more, with_symbol, symbols_more, whole_end}
use Rattle.glk_layout.proofs.SectionSteps.{alignment_some, made_aligned, end_next, first_end, text_first, end_from_start, start_least}

-- Boxes.

module _ (bound : ℕ) (boxes : List Box) (some : All (λ b. 0 < b.align) boxes) where
  -- where the first m boxes end
  end_at : ℕ → ℕ
  end_at m = end_after bound (take m boxes)

  step_up : (m : ℕ) → end_after bound (take m boxes) ≤ end_after bound (take (m + 1) boxes)
  step_up m =
      elim (cases_lt m (length boxes)) [
        | inl inside ↦
            let more = end_more bound boxes m no_box inside in
            let above = address_above (end_after bound (take m boxes)) (get_or boxes m no_box) (some m no_box inside) in
            omega (arith, more, above)
        | inr past ↦
            let same : take m boxes ≡ take (m + 1) boxes = take_all m boxes past ∙ sym (take_all (m + 1) boxes (omega arith)) in
            let e = ap (end_after bound) same in
            omega (arith, e)
      ]

  steps_up : (m d : ℕ) → end_after bound (take m boxes) ≤ end_after bound (take (m + d) boxes)
  steps_up m zero =
      let P : ℕ → Type 0 = λ n. end_after bound (take m boxes) ≤ end_after bound (take n boxes) in
      let same : end_after bound (take m boxes) ≤ end_after bound (take m boxes) = omega arith in
      let e : m ≡ m + zero = omega arith in
      subst P e same
  steps_up m (suc d) =
      let P : ℕ → Type 0 = λ n. end_after bound (take m boxes) ≤ end_after bound (take n boxes) in
      let before : end_after bound (take m boxes) ≤ end_after bound (take (m + d) boxes) = steps_up m d in
      let next : end_after bound (take (m + d) boxes) ≤ end_after bound (take (m + d + 1) boxes) = step_up (m + d) in
      let both : end_after bound (take m boxes) ≤ end_after bound (take (m + d + 1) boxes) = omega arith in
      let e : m + d + 1 ≡ m + suc d = omega arith in
      subst P e both

  up_to : (m n : ℕ) → m ≤ n → end_after bound (take m boxes) ≤ end_after bound (take n boxes)
  up_to m n le =
      let P : ℕ → Type 0 = λ k. end_after bound (take m boxes) ≤ end_after bound (take k boxes) in
      let e : m + (n - m) ≡ n = omega arith in
      subst P e (steps_up m (n - m))

  all_end : end_after bound (take (length boxes) boxes) ≡ end_after bound boxes
  all_end = ap (end_after bound) (take_all (length boxes) boxes (let e : length boxes ≤ length boxes = omega arith in e))

  from_bound : (m : ℕ) → bound ≤ end_after bound (take m boxes)
  from_bound m =
      let e : end_after bound (take 0 boxes) ≡ bound = end_none bound in
      let u = up_to 0 m (omega arith) in
      omega (arith, e, u)

  pub in_order : AreInOrder bound boxes
  in_order = record {
    aligned = λ i lt.
        (from_is_least (get_or boxes i no_box).align (end_after bound (take i boxes)) (some i no_box lt)).multiple;
    from = λ i lt.
        let low = from_bound i in
        let above = address_above (end_after bound (take i boxes)) (get_or boxes i no_box) (some i no_box lt) in
        omega (arith, low, above);
    apart = λ i j less lt.
        let more = end_more bound boxes i no_box (omega arith) in
        let u = up_to (i + 1) j (omega arith) in
        let above = address_above (end_after bound (take j boxes)) (get_or boxes j no_box) (some j no_box lt) in
        omega (arith, more, u, above);
    to = λ i lt.
        let more = end_more bound boxes i no_box lt in
        let u = up_to (i + 1) (length boxes) (omega arith) in
        omega (arith, more, u, all_end);
  }

pub boxes_in_order : BoxesAreInOrder
boxes_in_order bound boxes some = in_order bound boxes some

-- Symbols of a section.

with_above : (n end : ℕ) (s : KeptSymbol) → end ≤ with_symbol n end s
with_above n end s = chosen (is_in n s)
  where
    chosen : (b : Bool) → end ≤ (if b then box_end end (box_of s) else end)
    chosen true = let above = address_above end (box_of s) (alignment_some s) in omega (arith, above)
    chosen false = let e : end ≤ end = omega arith in e

module _ (c : PlacedContents) (n : ℕ) where
  symbol_more : (i : ℕ) → i < length c.symbols → end_before c n (i + 1) ≡ with_symbol n (end_before c n i) (symbol_at c i)
  unfolding end_before
  symbol_more i lt = symbols_more n (section_start c n) c.symbols i no_symbol lt

  same_past : (m : ℕ) → length c.symbols ≤ m → end_before c n m ≡ end_after (section_start c n) (boxes_in n c.symbols)
  unfolding end_before
  same_past m past = ap (λ l. end_after (section_start c n) (boxes_in n l)) (take_all m c.symbols past)

  symbol_up : (m : ℕ) → end_before c n m ≤ end_before c n (m + 1)
  symbol_up m =
      elim (cases_lt m (length c.symbols)) [
        | inl inside ↦
            let more = symbol_more m inside in
            let above = with_above n (end_before c n m) (symbol_at c m) in
            omega (arith, more, above)
        | inr past ↦
            let e = same_past m past in
            let f = same_past (m + 1) (omega arith) in
            omega (arith, e, f)
      ]

  symbols_up : (m d : ℕ) → end_before c n m ≤ end_before c n (m + d)
  symbols_up m zero =
      let P : ℕ → Type 0 = λ k. end_before c n m ≤ end_before c n k in
      let same : end_before c n m ≤ end_before c n m = omega arith in
      let e : m ≡ m + zero = omega arith in
      subst P e same
  symbols_up m (suc d) =
      let P : ℕ → Type 0 = λ k. end_before c n m ≤ end_before c n k in
      let before : end_before c n m ≤ end_before c n (m + d) = symbols_up m d in
      let next : end_before c n (m + d) ≤ end_before c n (m + d + 1) = symbol_up (m + d) in
      let both : end_before c n m ≤ end_before c n (m + d + 1) = omega arith in
      let e : m + d + 1 ≡ m + suc d = omega arith in
      subst P e both

  symbols_up_to : (i j : ℕ) → i ≤ j → end_before c n i ≤ end_before c n j
  symbols_up_to i j le =
      let P : ℕ → Type 0 = λ k. end_before c n i ≤ end_before c n k in
      let e : i + (j - i) ≡ j = omega arith in
      subst P e (symbols_up i (j - i))

  before_none : end_before c n 0 ≡ section_start c n
  unfolding end_before end_after boxes_in
  before_none = refl

  symbol_above : (i : ℕ) → end_before c n i ≤ address_within c n i
  symbol_above i = address_above (end_before c n i) (box_of (symbol_at c i)) (alignment_some (symbol_at c i))

  pub symbol_from : (i : ℕ) → section_start c n ≤ address_within c n i
  symbol_from i =
      let u = symbols_up_to 0 i (omega arith) in
      let above = symbol_above i in
      omega (arith, before_none, u, above)

  -- the end of a symbol that is in the section
  symbol_end : (i : ℕ) → i < length c.symbols → is_in n (symbol_at c i) ≡ true
      → address_within c n i + room_of (symbol_at c i) ≡ end_before c n (i + 1)
  symbol_end i lt here =
      let P : Bool → Type 0 = λ b. end_before c n (i + 1) ≡ (if b then box_end (end_before c n i) (box_of (symbol_at c i)) else end_before c n i) in
      sym (subst P here (symbol_more i lt))

symbols_end : (c : PlacedContents) (k : ℕ) → IsPlaceable c → end_before c (suc k) (length c.symbols) ≤ section_end c (suc k)
symbols_end c k p =
    let past = same_past c (suc k) (length c.symbols) (let e : length c.symbols ≤ length c.symbols = omega arith in e) in
    let whole = end_append (section_start c (suc k)) (boxes_in (suc k) c.symbols) (made_boxes c (suc k)) in
    let next = end_next c k in
    let above = end_above (end_after (section_start c (suc k)) (boxes_in (suc k) c.symbols)) (made_boxes c (suc k)) (made_aligned c (suc k) p) in
    omega (arith, past, whole, next, above)

pub symbols_in_order : AreSymbolsInOrder
symbols_in_order c n p low high = record {
  aligned = λ i lt here. (from_is_least (alignment_of (symbol_at c i)) (end_before c n i) (alignment_some (symbol_at c i))).multiple;
  from = λ i lt here. symbol_from c n i;
  apart = λ i j less lt here.
      let end = symbol_end c n i (omega arith) here in
      let u = symbols_up_to c n (i + 1) j (omega arith) in
      let above = symbol_above c n j in
      omega (arith, end, u, above);
  to = λ i lt here.
      let end = symbol_end c n i lt here in
      let u = symbols_up_to c n (i + 1) (length c.symbols) (omega arith) in
      let P : ℕ → Type 0 = λ m. end_before c m (length c.symbols) ≤ section_end c m in
      let e : suc (n - 1) ≡ n = omega arith in
      let last = subst P e (symbols_end c (n - 1) p) in
      omega (arith, end, u, last);
}

-- Sections.

pub sections_in_order : AreSectionsInOrder
sections_in_order c n p low high =
    let P : ℕ → Type 0 = λ m. section_start c m ≤ section_end c m in
    let e : suc (n - 1) ≡ n = omega arith in
    let Q : ℕ → Type 0 = λ m. section_end c n ≤ section_start c m in
    let next : suc n ≡ n + 1 = omega arith in
    (subst P e (end_from_start c (n - 1) p), subst Q next (start_least c n).above)

pub end_rises : (c : PlacedContents) (k : ℕ) → IsPlaceable c → section_end c k ≤ section_end c (suc k)
end_rises c k p =
    let a = (start_least c k).above in
    let b = end_from_start c k p in
    omega (arith, a, b)

pub end_low : (c : PlacedContents) (k : ℕ) → IsPlaceable c → text_start ≤ section_end c k
end_low c zero p = let e = first_end c in omega (arith, e)
end_low c (suc k) p =
    let a = end_low c k p in
    let b = end_rises c k p in
    omega (arith, a, b)

pub start_low : (c : PlacedContents) (n : ℕ) → IsPlaceable c → text ≤ n → text_start ≤ section_start c n
start_low c n p low =
    let P : ℕ → Type 0 = λ m. text_start ≤ section_start c m in
    let e : suc (n - 1) ≡ n = omega arith in
    let a = (start_least c (n - 1)).above in
    let b = end_low c (n - 1) p in
    subst P e (omega (arith, a, b))

-- where a section ends, by its range
pub range_end : (c : PlacedContents) (addrs sizes : List ℕ) (n : ℕ) → IsPlaceable c → text ≤ n → n ≤ noptrbss
    → of_section addrs n ≡ section_start c n → of_section sizes n ≡ section_end c n - section_start c n
    → of_section addrs n + of_section sizes n ≡ section_end c n
range_end c addrs sizes n p low high addr size =
    let order = (sections_in_order c n p low high).0 in
    omega (arith, addr, size, order)

-- The addresses of symbols by index.

-- a home is a section that takes addresses
abbrev pub IsHome : Option ℕ → Type 0
IsHome home = (n : ℕ) → home ≡ Some n → (text ≤ n) × (n ≤ noptrbss)

kind_home : (kind : SymKind) (n : ℕ) → section_of_kind kind ≡ Some n → (text ≤ n) × (n ≤ noptrbss)
kind_home Text n e = grind arith
kind_home Rodata n e = grind arith
kind_home NoptrData n e = grind arith
kind_home Data n e = grind arith
kind_home Bss n e = grind arith
kind_home NoptrBss n e = grind arith
kind_home TlsBss n e = cc

pub home_known : (s : KeptSymbol) (n : ℕ) → home_of s ≡ Some n → (text ≤ n) × (n ≤ noptrbss)
home_known s n e = cases s.kind e
  where
    cases : (k : Option SymKind) → home_of (record { kind = k; align = s.align; size = s.size; name_len = s.name_len }) ≡ Some n → (text ≤ n) × (n ≤ noptrbss)
    cases None e = cc
    cases (Some kind) e = kind_home kind n e

-- an address that is there is not 0
home_address : (address : ℕ → ℕ) (home : Option ℕ) → IsHome home → ((n : ℕ) → text ≤ n → 0 < address n)
    → (let at : ℕ = option_map_or (λ n. if nat_le n noptrbss then address n else 0) home 0 in if at == 0 then None else Some at) ≡ option_map address home
home_address address None known low = refl
home_address address (Some n) known low =
    let placed = known n refl in
    let some : 0 < address n = low n placed.0 in
    let inside : nat_le n noptrbss ≡ true = grind (arith, nat_tests) in
    let not_0 : (address n == 0) ≡ false = grind (arith, nat_tests) in
    rw (inside, not_0) refl

pub symbol_address_at : (c : PlacedContents) (i : ℕ) (symbols : List ℕ) → IsPlaceable c → get_or symbols i 0 ≡ address_by c noptrbss i
    → address_at symbols i ≡ symbol_address c i
symbol_address_at c i symbols p e =
    ap (λ at. if at == 0 then None else Some at) e
    ∙ home_address (λ n. address_within c n i) (home_of (symbol_at c i)) (home_known (symbol_at c i))
    (λ n low. let a = start_low c n p low in let b = symbol_from c n i in omega (arith, a, b))

pub made_address_at : (c : PlacedContents) (i : ℕ) (made : List ℕ) → get_or made i 0 ≡ (if nat_le rodata noptrbss then made_address c i else 0)
    → get_or made i 0 ≡ made_address c i
made_address_at c i made e = e

-- what `place` answers
pub layout_is : (c : PlacedContents) (l : Layout) (symbols made : List ℕ) → IsPlaceable c → AreRanges c l.addrs l.sizes → ArePlacedTo c noptrbss symbols made
    → l.symbols.items ≡ symbols → l.made.items ≡ made → IsLayout c l
layout_is c l symbols made p ranges placed symbols_are made_are = record {
  addrs = ranges.addrs_at;
  sizes = ranges.sizes_at;
  placed = ranges.placed;
  symbol_count = ap length symbols_are ∙ placed.symbol_count;
  symbols = λ i lt.
      let P : List ℕ → Type 0 = λ xs. address_at xs i ≡ symbol_address c i in
      subst P (sym symbols_are) (symbol_address_at c i symbols p (placed.symbols_at i lt));
  made_count = ap length made_are ∙ placed.made_count;
  made = λ i lt.
      let P : List ℕ → Type 0 = λ xs. get_or xs i 0 ≡ made_address c i in
      subst P (sym made_are) (made_address_at c i made (placed.made_at i lt));
}

-- before the first section nothing is placed
pub placed_none : (c : PlacedContents) (symbols made : List ℕ) → symbols ≡ replicate (length c.symbols) 0 → made ≡ replicate (length c.made) 0
    → ArePlacedTo c 0 symbols made
placed_none c symbols made symbols_are made_are = record {
  symbol_count = ap length symbols_are ∙ length-replicate (length c.symbols) 0;
  symbols_at = λ i lt. zero_at symbols (length c.symbols) i symbols_are lt ∙ sym (none_by i (home_of (symbol_at c i)) (home_known (symbol_at c i)));
  made_count = ap length made_are ∙ length-replicate (length c.made) 0;
  made_at = λ i lt. zero_at made (length c.made) i made_are lt;
}
  where
    zero_at : (xs : List ℕ) (n i : ℕ) → xs ≡ replicate n 0 → i < n → get_or xs i 0 ≡ 0
    zero_at xs n i are lt = ap (λ l. get_or l i 0) are ∙ get_or-replicate n i 0 0 lt

    none_by : (i : ℕ) (home : Option ℕ) → IsHome home → option_map_or (λ n. if nat_le n 0 then address_within c n i else 0) home 0 ≡ 0
    none_by i None known = refl
    none_by i (Some n) known =
        let placed = known n refl in
        let after : nat_le n 0 ≡ false = grind (arith, nat_tests) in
        rw after refl

-- where a section ends, by the index of its number
pub range_at : (c : PlacedContents) (addrs sizes : List ℕ) (index n : ℕ) → IsPlaceable c → AreRanges c addrs sizes → index + 1 ≡ n → text ≤ n → n ≤ noptrbss
    → get_or addrs index 0 + get_or sizes index 0 ≡ section_end c n
range_at c addrs sizes index n p ranges e low high =
    let other : (n == tbss) ≡ false = grind (arith, nat_tests) in
    let at : n - 1 ≡ index = omega arith in
    let Addr : Bool → Type 0 = λ b. of_section addrs n ≡ (if b then section_start c bss else section_start c n) in
    let Size : Bool → Type 0 = λ b. of_section sizes n ≡ (if b then c.tables.tbss else section_end c n - section_start c n) in
    let addr : of_section addrs n ≡ section_start c n = subst Addr other (ranges.addrs_at n low (omega arith)) in
    let size : of_section sizes n ≡ section_end c n - section_start c n = subst Size other (ranges.sizes_at n low (omega arith)) in
    let P : ℕ → Type 0 = λ i. get_or addrs i 0 + get_or sizes i 0 ≡ section_end c n in
    subst P at (range_end c addrs sizes n p low high addr size)

-- .data ends before .noptrbss does
pub data_before : (c : PlacedContents) → IsPlaceable c → section_end c written_data ≤ section_end c noptrbss
data_before c p =
    let a : section_end c 8 ≤ section_end c 9 = end_rises c 8 p in
    let b : section_end c 9 ≤ section_end c 10 = end_rises c 9 p in
    let whole : section_end c 8 ≤ section_end c 10 = omega arith in
    whole

pub text_ends : TextEnds
text_ends c =
    end_next c 0
    ∙ (ap (λ a. end_after a (section_boxes c 1)) (text_first c)
    ∙ (end_append text_start (boxes_in 1 c.symbols) (made_boxes c 1)
    ∙ (whole_end (end_after text_start (boxes_in 1 c.symbols)) 0
    ∙ add-zero (end_after text_start (boxes_in 1 c.symbols)))))
