-- Symbols, made contents and sections that are placed one after the other, as far as they have come.
use Rattle.std.proofs.Common.{◌≡◌, ℕ, ◌+◌, ◌*◌, ◌^◌, ◌<◌, ◌≤◌, inl, inr, List, length, take, get_or, set, sym, ap, ◌∙◌, subst, arith}
use Rattle.std.specs.Prelude.{map, if◌then◌else◌}
use Rattle.std.specs.List.{sum_by}
use Rattle.std.proofs.lemmas.Bool.{cases_lt}
use Rattle.std.proofs.lemmas.List.{get_or-set_same, get_or-set_other, get_or-map, length-map}
use Rattle.std.proofs.lemmas.List.Sums.{sum_by_more}
use Rattle.glk_base.specs.Multiples.{IsLeastMultiple}
use Rattle.glk_layout.specs.declared.input.KeptSymbol.{KeptSymbol}
use Rattle.glk_layout.specs.declared.input.MadeContent.{MadeContent}
use Rattle.glk_layout.specs.Boxes.{Box, no_box, box_address, end_after, address_in}
use Rattle.glk_layout.specs.Symbols.{is_in, box_of, boxes_in}
use Rattle.glk_layout.specs.Layout.{no_symbol, made_box}
use Rattle.glk_layout.proofs.Boxing.{with_symbol, symbols_more, end_more, least_is_from}

-- Symbols of section n.

-- the address of symbol k where it is in the section, else what was there
abbrev pub place_value : ℕ → ℕ → List KeptSymbol → ℕ → ℕ → ℕ
place_value n start symbols k old =
    if is_in n (get_or symbols k no_symbol)
    then box_address (end_after start (boxes_in n (take k symbols))) (box_of (get_or symbols k no_symbol))
    else old

-- the first i symbols are placed
pub record SymbolsTo (n start : ℕ) (symbols : List KeptSymbol) (old now : List ℕ) (i end : ℕ) : Type 0 where
  pub ends : end ≡ end_after start (boxes_in n (take i symbols))
  pub small : end ≤ start + i * 2 ^ 33
  pub placed : (k : ℕ) → k < i → get_or now k 0 ≡ place_value n start symbols k (get_or old k 0)
  pub rest : (k : ℕ) → i ≤ k → get_or now k 0 ≡ get_or old k 0

pub symbols_step : (n start : ℕ) (symbols : List KeptSymbol) (old now : List ℕ) (i end after place : ℕ) → i < length symbols → i < length now
    → SymbolsTo n start symbols old now i end
    → after ≡ with_symbol n end (get_or symbols i no_symbol)
    → place ≡ (if is_in n (get_or symbols i no_symbol) then box_address end (box_of (get_or symbols i no_symbol)) else get_or now i 0)
    → after ≤ end + 2 ^ 33
    → SymbolsTo n start symbols old (set now i place) (i + 1) after
symbols_step n start symbols old now i end after place lt long before after_is place_is bound = record {
  ends =
      after_is
      ∙ (ap (λ e. with_symbol n e (get_or symbols i no_symbol)) before.ends
      ∙ sym (symbols_more n start symbols i no_symbol lt));
  small = let s = before.small in omega arith;
  placed = λ k low.
      elim (cases_lt k i) [
        | inl earlier ↦ get_or-set_other now i k place 0 (λ same. omega arith) ∙ before.placed k earlier
        | inr here ↦
            let e : k ≡ i = omega arith in
            let Value : ℕ → Type 0 = λ j. get_or (set now i place) j 0 ≡ place_value n start symbols j (get_or old j 0) in
            let same : (if is_in n (get_or symbols i no_symbol) then box_address end (box_of (get_or symbols i no_symbol)) else get_or now i 0)
            ≡ place_value n start symbols i (get_or old i 0) =
            ap (λ x. if is_in n (get_or symbols i no_symbol) then box_address x (box_of (get_or symbols i no_symbol)) else get_or now i 0) before.ends
            ∙ ap (λ x. if is_in n (get_or symbols i no_symbol)
            then box_address (end_after start (boxes_in n (take i symbols))) (box_of (get_or symbols i no_symbol)) else x) (before.rest i (omega arith)) in
            subst Value (sym e) (get_or-set_same now i place 0 long ∙ (place_is ∙ same))
      ];
  rest = λ k high. get_or-set_other now i k place 0 (λ same. omega arith) ∙ before.rest k (omega arith);
}

-- Made contents.

abbrev pub no_made : MadeContent
no_made = record { align = 0; size = 0 }

-- the first i made contents are placed
pub record MadeTo (start : ℕ) (made : List MadeContent) (now : List ℕ) (i end : ℕ) : Type 0 where
  pub ends : end ≡ end_after start (take i (map made_box made))
  pub small : end ≤ start + sum_by (λ m. m.align + m.size) (take i made)
  pub placed : (k : ℕ) → k < i → get_or now k 0 ≡ address_in start (map made_box made) k

pub made_step : (start : ℕ) (made : List MadeContent) (now : List ℕ) (i end address : ℕ) → i < length made → i < length now
    → MadeTo start made now i end
    → 0 < (get_or made i no_made).align
    → IsLeastMultiple (get_or made i no_made).align end address
    → MadeTo start made (set now i address) (i + 1) (address + (get_or made i no_made).size)
made_step start made now i end address lt long before some least =
    let m : MadeContent = get_or made i no_made in
    let boxes : List Box = map made_box made in
    let lt' : i < length boxes = let e = length-map made made_box in omega arith in
    let at_i : get_or boxes i no_box ≡ made_box m = get_or-map made_box made i no_made no_box lt in
    let address_is : address ≡ box_address (end_after start (take i boxes)) (get_or boxes i no_box) =
    least_is_from m.align end address some least
    ∙ (ap (λ e. box_address e (made_box m)) before.ends ∙ ap (λ b. box_address (end_after start (take i boxes)) b) (sym at_i)) in
    let size_is : (get_or boxes i no_box).room ≡ m.size = ap (λ b. b.room) at_i in
    record {
      ends =
          ap (λ a. a + m.size) address_is
          ∙ (ap (λ s. box_address (end_after start (take i boxes)) (get_or boxes i no_box) + s) (sym size_is)
          ∙ sym (end_more start boxes i no_box lt'));
      small =
          let s = before.small in
          let l = least.least in
          let more = sum_by_more (λ x. x.align + x.size) made i no_made lt in
          omega arith;
      placed = λ k low.
          elim (cases_lt k i) [
            | inl earlier ↦ get_or-set_other now i k address 0 (λ same. omega arith) ∙ before.placed k earlier
            | inr here ↦
                let e : k ≡ i = omega arith in
                let Value : ℕ → Type 0 = λ j. get_or (set now i address) j 0 ≡ address_in start boxes j in
                subst Value (sym e) (get_or-set_same now i address 0 long ∙ address_is)
          ];
    }
