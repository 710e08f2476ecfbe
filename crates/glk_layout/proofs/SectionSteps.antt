-- Sections that are placed one after the other, as far as they have come.
use Rattle.std.proofs.Common.{◌≡◌, ℕ, zero, suc, ◌+◌, ◌-◌, ◌*◌, ◌^◌, ◌<◌, ◌≤◌, inl, inr, List, [], ◌∷◌, length, take, get_or, set, Bool, true, false, Option, Some, None, nat_le, refl, sym, ap, ◌∙◌, subst, arith, length-set}
use Rattle.std.specs.Prelude.{map, filter, unwrap_or, All, if◌then◌else◌, ◌==◌}
use Rattle.std.specs.Option.{option_map_or}
use Rattle.std.proofs.lemmas.Bool.{cases_lt}
use Rattle.std.proofs.lemmas.Bool.Decides.{nat_tests}
use Rattle.std.proofs.lemmas.List.{get_or-set_same, get_or-set_other}
use Rattle.std.proofs.lemmas.List.Elements.{All-append, All-map, All-filter}
use Rattle.glk_base.specs.Multiples.{IsLeastMultiple}
use Rattle.glk_elf.specs.Sections.{text, rodata, bss, noptrbss, tbss}
use Rattle.glk_elf.specs.Image.{multiple_from, page_size}
use Rattle.glk_elf.specs.Placing.{text_start, start_multiple, section_align}
use Rattle.glk_layout.specs.declared.input.KeptSymbol.{KeptSymbol}
use Rattle.glk_layout.specs.Placed.{PlacedContents}
use Rattle.glk_layout.specs.Boxes.{box_address, end_after, address_in}
use Rattle.glk_layout.specs.Symbols.{is_in, home_of, box_of, boxes_in, alignment_of, data_align, text_align}
use Rattle.glk_layout.specs.Layout.{made_box, made_boxes, whole_box, table_size, section_boxes, section_start, section_end, symbol_at, address_within, end_before, made_address, IsPlaceable}
use Rattle.glk_layout.specs.Sections.{AreRanges}
use Rattle.glk_layout.specs.Steps.{PlacesIn, PlacesMade, address_by, ArePlacedTo}
use Rattle.glk_layout.proofs.Boxing.{least_is_from, from_is_least, end_above}

-- Alignments are not 0.

first_some : (a b c d e : Bool) → 0 < unwrap_or (if a then Some 32 else (if b then Some 16 else (if c then Some 8 else (if d then Some 4 else (if e then Some 2 else None))))) 1
first_some true b c d e = omega arith
first_some false true c d e = omega arith
first_some false false true d e = omega arith
first_some false false false true e = omega arith
first_some false false false false true = omega arith
first_some false false false false false = omega arith

data_some : (size : ℕ) → 0 < data_align size
unfolding data_align
data_some size = first_some (nat_le 32 size) (nat_le 16 size) (nat_le 8 size) (nat_le 4 size) (nat_le 2 size)

chosen_some : (zero_align in_text : Bool) (align size : ℕ) → (zero_align ≡ false → 0 < align) → 0 < (if zero_align then (if in_text then text_align else data_align size) else align)
chosen_some true true align size h = omega arith
chosen_some true false align size h = data_some size
chosen_some false t align size h = h refl

pub alignment_some : (s : KeptSymbol) → 0 < alignment_of s
unfolding alignment_of
alignment_some s = chosen_some (s.align == 0) (is_in text s) s.align s.size (λ e. grind (arith, nat_tests))

multiple_some : (b : Bool) → 0 < (if b then page_size else section_align)
multiple_some true = omega arith
multiple_some false = omega arith

pub start_some : (n : ℕ) → 0 < start_multiple n
start_some n = multiple_some _

pub symbols_aligned : (n : ℕ) (symbols : List KeptSymbol) → All (λ b. 0 < b.align) (boxes_in n symbols)
unfolding boxes_in
symbols_aligned n symbols =
    All-map (λ b. 0 < b.align) box_of (filter (is_in n) symbols)
    (All-filter (is_in n) (λ s. 0 < alignment_of s) symbols (λ k d lt. alignment_some (get_or symbols k d)))

pub made_aligned : (c : PlacedContents) (n : ℕ) → IsPlaceable c → All (λ b. 0 < b.align) (made_boxes c n)
made_aligned c n p = made_cases (n == rodata)
  where
    whole_aligned : (size : ℕ) → All (λ b. 0 < b.align) (whole_box size ∷ [])
    whole_aligned size zero d lt = omega arith
    whole_aligned size (suc k) d lt = absurd (omega (arith, lt))

    made_cases : (b : Bool) → All (λ b. 0 < b.align) (if b then map made_box c.made else whole_box (table_size c.tables n) ∷ [])
    made_cases true = All-map (λ b. 0 < b.align) made_box c.made p.aligned
    made_cases false = whole_aligned (table_size c.tables n)

pub section_aligned : (c : PlacedContents) (n : ℕ) → IsPlaceable c → All (λ b. 0 < b.align) (section_boxes c n)
section_aligned c n p = All-append (λ b. 0 < b.align) (boxes_in n c.symbols) (made_boxes c n) (symbols_aligned n c.symbols) (made_aligned c n p)

-- Where sections start and end.

pub start_next : (c : PlacedContents) (k : ℕ) → section_start c (suc k) ≡ multiple_from (start_multiple (suc k)) (section_end c k)
unfolding section_start
start_next c k = ap (λ m. multiple_from (start_multiple (suc k)) (section_end c m)) (let e : suc k - 1 ≡ k = omega arith in e)

pub end_next : (c : PlacedContents) (k : ℕ) → section_end c (suc k) ≡ end_after (section_start c (suc k)) (section_boxes c (suc k))
unfolding section_end
end_next c k = ap (λ a. end_after a (section_boxes c (suc k))) (sym (start_next c k))

pub first_end : (c : PlacedContents) → section_end c 0 ≡ text_start
unfolding section_end
first_end c = refl

pub text_first : (c : PlacedContents) → section_start c text ≡ text_start
unfolding section_start section_end
text_first c = refl

pub end_from_start : (c : PlacedContents) (k : ℕ) → IsPlaceable c → section_start c (suc k) ≤ section_end c (suc k)
end_from_start c k p =
    let P : ℕ → Type 0 = λ e. section_start c (suc k) ≤ e in
    subst P (sym (end_next c k)) (end_above (section_start c (suc k)) (section_boxes c (suc k)) (section_aligned c (suc k) p))

pub start_least : (c : PlacedContents) (k : ℕ) → IsLeastMultiple (start_multiple (suc k)) (section_end c k) (section_start c (suc k))
start_least c k =
    let P : ℕ → Type 0 = λ a. IsLeastMultiple (start_multiple (suc k)) (section_end c k) a in
    subst P (sym (start_next c k)) (from_is_least (start_multiple (suc k)) (section_end c k) (start_some (suc k)))

-- Symbols and made contents of one more section.

-- an address by the number of its section, where those up to a number have one
abbrev by_number : (ℕ → ℕ) → ℕ → Option ℕ → ℕ
by_number address k home = option_map_or (λ n. if nat_le n k then address n else 0) home 0

number_step : (address : ℕ → ℕ) (k n : ℕ)
    → (if n == suc k then address (suc k) else (if nat_le n k then address n else 0)) ≡ (if nat_le n (suc k) then address n else 0)
number_step address k n =
    elim (cases_lt n (suc k)) [
      | inl before ↦
          let other : (n == suc k) ≡ false = grind (arith, nat_tests) in
          let low : nat_le n k ≡ true = grind (arith, nat_tests) in
          let low' : nat_le n (suc k) ≡ true = grind (arith, nat_tests) in
          rw (other, low, low') refl
      | inr from ↦
          elim (cases_lt (suc k) n) [
            | inl after ↦
                let other : (n == suc k) ≡ false = grind (arith, nat_tests) in
                let high : nat_le n k ≡ false = grind (arith, nat_tests) in
                let high' : nat_le n (suc k) ≡ false = grind (arith, nat_tests) in
                rw (other, high, high') refl
            | inr to ↦
                let e : n ≡ suc k = omega arith in
                let here : (n == suc k) ≡ true = grind (arith, nat_tests) in
                let low' : nat_le n (suc k) ≡ true = grind (arith, nat_tests) in
                rw (here, low') (ap address (sym e))
          ]
    ]

home_step : (address : ℕ → ℕ) (k : ℕ) (home : Option ℕ)
    → (if option_map_or (λ n. n == suc k) home false then address (suc k) else by_number address k home) ≡ by_number address (suc k) home
home_step address k None = refl
home_step address k (Some n) = number_step address k n

made_step : (k a b : ℕ) → (suc k ≡ rodata → b ≡ a)
    → (if suc k == rodata then b else (if nat_le rodata k then a else 0)) ≡ (if nat_le rodata (suc k) then a else 0)
made_step k a b same =
    elim (cases_lt (suc k) rodata) [
      | inl before ↦
          let other : (suc k == rodata) ≡ false = grind (arith, nat_tests) in
          let low : nat_le rodata k ≡ false = grind (arith, nat_tests) in
          let low' : nat_le rodata (suc k) ≡ false = grind (arith, nat_tests) in
          rw (other, low, low') refl
      | inr from ↦
          elim (cases_lt rodata (suc k)) [
            | inl after ↦
                let other : (suc k == rodata) ≡ false = grind (arith, nat_tests) in
                let high : nat_le rodata k ≡ true = grind (arith, nat_tests) in
                let high' : nat_le rodata (suc k) ≡ true = grind (arith, nat_tests) in
                rw (other, high, high') refl
            | inr to ↦
                let e : suc k ≡ rodata = omega arith in
                let here : (suc k == rodata) ≡ true = grind (arith, nat_tests) in
                let high' : nat_le rodata (suc k) ≡ true = grind (arith, nat_tests) in
                rw (here, high') (same e)
          ]
    ]

module _ (c : PlacedContents) (k start : ℕ) (start_is : start ≡ section_start c (suc k)) where
  symbols_next : (old new : List ℕ) → ((i : ℕ) → i < length c.symbols → get_or old i 0 ≡ address_by c k i)
      → PlacesIn (suc k) start c.symbols old new → (i : ℕ) → i < length c.symbols → get_or new i 0 ≡ address_by c (suc k) i
  unfolding is_in end_before
  symbols_next old new before places i lt =
      places i lt
      ∙ (ap (λ a. if is_in (suc k) (symbol_at c i) then box_address (end_after a (boxes_in (suc k) (take i c.symbols))) (box_of (symbol_at c i)) else get_or old i 0) start_is
      ∙ (ap (λ x. if is_in (suc k) (symbol_at c i) then address_within c (suc k) i else x) (before i lt)
      ∙ home_step (λ n. address_within c n i) k (home_of (symbol_at c i))))

  made_next : (old new : List ℕ) → ((i : ℕ) → i < length c.made → get_or old i 0 ≡ (if nat_le rodata k then made_address c i else 0))
      → PlacesMade c (suc k) start old new → (i : ℕ) → i < length c.made
      → get_or new i 0 ≡ (if nat_le rodata (suc k) then made_address c i else 0)
  made_next old new before places i lt =
      places i lt
      ∙ (ap (λ x. if suc k == rodata then address_in (end_after start (boxes_in (suc k) c.symbols)) (map made_box c.made) i else x) (before i lt)
      ∙ made_step k (made_address c i) (address_in (end_after start (boxes_in (suc k) c.symbols)) (map made_box c.made) i)
      (λ e. ap (λ a. address_in (end_after a (boxes_in (suc k) c.symbols)) (map made_box c.made) i) start_is
      ∙ ap (λ n. address_in (end_after (section_start c n) (boxes_in n c.symbols)) (map made_box c.made) i) e))

-- the sections up to number k are placed
pub record SectionsTo (c : PlacedContents) (k end : ℕ) (addrs sizes symbols made : List ℕ) : Type 0 where
  pub ends : end ≡ section_end c k
  pub small : end ≤ text_start + k * (2 ^ 57 + 2 ^ 58 + 2 ^ 13)
  pub addrs_count : length addrs ≡ 11
  pub sizes_count : length sizes ≡ 11
  pub addrs_at : (n : ℕ) → text ≤ n → n ≤ k → get_or addrs (n - 1) 0 ≡ section_start c n
  pub sizes_at : (n : ℕ) → text ≤ n → n ≤ k → get_or sizes (n - 1) 0 ≡ section_end c n - section_start c n
  pub placed : ArePlacedTo c k symbols made

-- one more number in a list by section
list_step : (xs : List ℕ) (k x : ℕ) (value : ℕ → ℕ) → k < length xs → x ≡ value (suc k)
    → ((n : ℕ) → text ≤ n → n ≤ k → get_or xs (n - 1) 0 ≡ value n)
    → (n : ℕ) → text ≤ n → n ≤ suc k → get_or (set xs k x) (n - 1) 0 ≡ value n
list_step xs k x value long x_is before n low high =
    elim (cases_lt n (suc k)) [
      | inl earlier ↦ get_or-set_other xs k (n - 1) x 0 (λ same. omega arith) ∙ before n low (omega arith)
      | inr here ↦
          let e : suc k ≡ n = omega arith in
          let at : n - 1 ≡ k = omega arith in
          ap (λ j. get_or (set xs k x) j 0) at ∙ (get_or-set_same xs k x 0 long ∙ (x_is ∙ ap value e))
    ]

pub sections_step : (c : PlacedContents) (k end start after : ℕ) (addrs sizes symbols made symbols' made' : List ℕ) → k < 10
    → SectionsTo c k end addrs sizes symbols made
    → IsLeastMultiple (start_multiple (suc k)) end start
    → start < end + 4096
    → after ≡ end_after start (section_boxes c (suc k))
    → after ≤ start + 2 ^ 57 + 2 ^ 58
    → length symbols' ≡ length symbols
    → PlacesIn (suc k) start c.symbols symbols symbols'
    → length made' ≡ length made
    → PlacesMade c (suc k) start made made'
    → SectionsTo c (suc k) after (set addrs k start) (set sizes k (after - start)) symbols' made'
sections_step c k end start after addrs sizes symbols made symbols' made' few before least near after_is bound symbols_long places made_long made_places =
    let start_is : start ≡ section_start c (suc k) =
    least_is_from (start_multiple (suc k)) end start (start_some (suc k)) least
    ∙ (ap (λ e. multiple_from (start_multiple (suc k)) e) before.ends ∙ sym (start_next c k)) in
    let end_is : after ≡ section_end c (suc k) =
    after_is ∙ (ap (λ a. end_after a (section_boxes c (suc k))) start_is ∙ sym (end_next c k)) in
    record {
      ends = end_is;
      small = let s = before.small in omega arith;
      addrs_count = length-set addrs k start ∙ before.addrs_count;
      sizes_count = length-set sizes k (after - start) ∙ before.sizes_count;
      addrs_at = list_step addrs k start (section_start c) (omega (arith, before.addrs_count)) start_is before.addrs_at;
      sizes_at =
          list_step sizes k (after - start) (λ n. section_end c n - section_start c n) (omega (arith, before.sizes_count))
          (ap (λ e. e - start) end_is ∙ ap (λ a. section_end c (suc k) - a) start_is) before.sizes_at;
      placed = record {
        symbol_count = symbols_long ∙ before.placed.symbol_count;
        symbols_at = symbols_next c k start start_is symbols symbols' before.placed.symbols_at places;
        made_count = made_long ∙ before.placed.made_count;
        made_at = made_next c k start start_is made made' before.placed.made_at made_places;
      };
    }

-- the same by a number that is one more
pub sections_next : (c : PlacedContents) (k next end start after : ℕ) (addrs sizes symbols made symbols' made' : List ℕ) → next ≡ suc k → k < 10
    → SectionsTo c k end addrs sizes symbols made
    → IsLeastMultiple (start_multiple next) end start
    → start < end + 4096
    → after ≡ end_after start (section_boxes c next)
    → after ≤ start + 2 ^ 57 + 2 ^ 58
    → length symbols' ≡ length symbols
    → PlacesIn next start c.symbols symbols symbols'
    → length made' ≡ length made
    → PlacesMade c next start made made'
    → SectionsTo c next after (set addrs k start) (set sizes k (after - start)) symbols' made'
sections_next c k next end start after addrs sizes symbols made symbols' made' next_is few before least near after_is bound symbols_long places made_long made_places =
    let Least : ℕ → Type 0 = λ m. IsLeastMultiple (start_multiple m) end start in
    let After : ℕ → Type 0 = λ m. after ≡ end_after start (section_boxes c m) in
    let Places : ℕ → Type 0 = λ m. PlacesIn m start c.symbols symbols symbols' in
    let Made : ℕ → Type 0 = λ m. PlacesMade c m start made made' in
    let To : ℕ → Type 0 = λ m. SectionsTo c m after (set addrs k start) (set sizes k (after - start)) symbols' made' in
    subst To (sym next_is)
    (sections_step c k end start after addrs sizes symbols made symbols' made' few before (subst Least next_is least) near
    (subst After next_is after_is) bound symbols_long (subst Places next_is places) made_long (subst Made next_is made_places))

-- all sections, with the storage of threads
module _ (c : PlacedContents) (p : IsPlaceable c) (end k from to : ℕ) (addrs sizes symbols made : List ℕ) (k_is : k ≡ noptrbss) (all : SectionsTo c k end addrs sizes symbols made) (from_is : from + 1 ≡ bss) (to_is : to + 1 ≡ tbss) where
  starts : (n : ℕ) → text ≤ n → n ≤ noptrbss → get_or addrs (n - 1) 0 ≡ section_start c n
  starts n low high = all.addrs_at n low (omega arith)

  addrs_all : List ℕ
  addrs_all = set addrs to (get_or addrs from 0)

  sizes_all : List ℕ
  sizes_all = set sizes to c.tables.tbss

  addr_at : (n : ℕ) → text ≤ n → n ≤ noptrbss → get_or (set addrs to (get_or addrs from 0)) (n - 1) 0 ≡ section_start c n
  addr_at n low high = get_or-set_other addrs to (n - 1) (get_or addrs from 0) 0 (λ same. omega arith) ∙ starts n low high

  size_at : (n : ℕ) → text ≤ n → n ≤ noptrbss → get_or (set sizes to c.tables.tbss) (n - 1) 0 ≡ section_end c n - section_start c n
  size_at n low high = get_or-set_other sizes to (n - 1) c.tables.tbss 0 (λ same. omega arith) ∙ all.sizes_at n low (omega arith)

  addr_last : (n : ℕ) → n ≡ tbss → get_or (set addrs to (get_or addrs from 0)) (n - 1) 0 ≡ section_start c bss
  addr_last n e =
      let at : n - 1 ≡ to = omega arith in
      let at_bss : from ≡ bss - 1 = omega arith in
      ap (λ j. get_or (set addrs to (get_or addrs from 0)) j 0) at
      ∙ (get_or-set_same addrs to (get_or addrs from 0) 0 (omega (arith, all.addrs_count))
      ∙ (ap (λ j. get_or addrs j 0) at_bss ∙ starts bss (omega arith) (omega arith)))

  size_last : (n : ℕ) → n ≡ tbss → get_or (set sizes to c.tables.tbss) (n - 1) 0 ≡ c.tables.tbss
  size_last n e =
      let at : n - 1 ≡ to = omega arith in
      ap (λ j. get_or (set sizes to c.tables.tbss) j 0) at ∙ get_or-set_same sizes to c.tables.tbss 0 (omega (arith, all.sizes_count))

  follow : (n : ℕ) → rodata ≤ n → n ≤ noptrbss
      → IsLeastMultiple (start_multiple n) (get_or (set addrs to (get_or addrs from 0)) (n - 1 - 1) 0 + get_or (set sizes to c.tables.tbss) (n - 1 - 1) 0)
      (get_or (set addrs to (get_or addrs from 0)) (n - 1) 0)
  follow n low high =
      let before : ℕ = n - 1 - 1 in
      let n_is : suc (suc before) ≡ n = omega arith in
      let last_is : suc before ≡ n - 1 = omega arith in
      let order : section_start c (suc before) ≤ section_end c (suc before) = end_from_start c before p in
      let Last : ℕ → Type 0 = λ m. section_start c m ≤ section_end c m in
      let order' : section_start c (n - 1) ≤ section_end c (n - 1) = subst Last last_is order in
      let addr_before = addr_at (n - 1) (omega arith) (omega arith) in
      let size_before = size_at (n - 1) (omega arith) (omega arith) in
      let sum : section_end c (n - 1) ≡ get_or (set addrs to (get_or addrs from 0)) (n - 1 - 1) 0 + get_or (set sizes to c.tables.tbss) (n - 1 - 1) 0 =
      omega (arith, addr_before, size_before, order') in
      let Bound : ℕ → Type 0 = λ b. IsLeastMultiple (start_multiple n) b (get_or (set addrs to (get_or addrs from 0)) (n - 1) 0) in
      let At : ℕ → Type 0 = λ a. IsLeastMultiple (start_multiple n) (section_end c (n - 1)) a in
      let Number : ℕ → Type 0 = λ m. IsLeastMultiple (start_multiple m) (section_end c (m - 1)) (section_start c m) in
      let Here : ℕ → Type 0 = λ b. IsLeastMultiple (start_multiple (suc (suc before))) (section_end c b) (section_start c (suc (suc before))) in
      let one_less : suc before ≡ suc (suc before) - 1 = omega arith in
      subst Bound sum (subst At (sym (addr_at n (omega arith) high)) (subst Number n_is (subst Here one_less (start_least c (suc before)))))

  pub all_ranges : AreRanges c (set addrs to (get_or addrs from 0)) (set sizes to c.tables.tbss)
  all_ranges = record {
    addrs_at = λ n low high.
        elim (cases_lt n tbss) [
          | inl placed ↦
              let other : (n == tbss) ≡ false = grind (arith, nat_tests) in
              rw other (addr_at n low (omega arith))
          | inr from_tbss ↦
              let e : n ≡ tbss = omega arith in
              let here : (n == tbss) ≡ true = grind (arith, nat_tests) in
              rw here (addr_last n e)
        ];
    sizes_at = λ n low high.
        elim (cases_lt n tbss) [
          | inl placed ↦
              let other : (n == tbss) ≡ false = grind (arith, nat_tests) in
              rw other (size_at n low (omega arith))
          | inr from_tbss ↦
              let e : n ≡ tbss = omega arith in
              let here : (n == tbss) ≡ true = grind (arith, nat_tests) in
              rw here (size_last n e)
        ];
    placed = record {
      eleven = length-set addrs to (get_or addrs from 0) ∙ all.addrs_count;
      text_at = addr_at text (omega arith) (omega arith) ∙ text_first c;
      follows = follow;
      tbss_at = addr_last tbss refl ∙ sym (addr_at bss (omega arith) (omega arith));
    };
  }
