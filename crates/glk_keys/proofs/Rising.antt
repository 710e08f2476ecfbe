-- The tables of objects grow by an object.
use Rattle.std.proofs.Common.{◌≡◌, ℕ, zero, suc, ◌+◌, ◌-◌, ◌<◌, List, [], ◌∷◌, ◌++◌, length, get_or, replicate, take, map, inl, inr, refl, sym, ap, ◌∙◌, arith, length-append, add-one, subst}
use Rattle.std.specs.List.{sum_by}
use Rattle.std.proofs.Math.Seq.{take-suc}
use Rattle.std.proofs.lemmas.Bool.{cases_lt}
use Rattle.std.proofs.lemmas.List.{get_or_append_left, get_or-append_right, length-replicate}
use Rattle.std.proofs.lemmas.List.Sums.{sum_by_push}
use Rattle.glk_base.specs.Groups.{group_start}
use Rattle.glk_base.proofs.Groups.{group_old, group_new, start_more, start_last}
use Rattle.glk_obj.specs.Object.{IsObject}
use Rattle.glk_obj.specs.Records.{symbols}
use Rattle.glk_keys.specs.Blocks.{starts_of}
use Rattle.glk_keys.specs.ObjectTables.{AreTables}
use Rattle.glk_keys.specs.declared.blocks.BlockStarts.{BlockStarts}

at_replicate : (n k x : ℕ) → k < n → get_or (replicate n x) k 0 ≡ x
at_replicate zero k x h = absurd (omega arith)
at_replicate (suc n) zero x h = refl
at_replicate (suc n) (suc k) x h = at_replicate n k x (omega arith)

map_push : (xs : List (List ℕ)) (b : List ℕ) → map starts_of (xs ++ b ∷ []) ≡ map starts_of xs ++ starts_of b ∷ []
map_push [] b = refl
map_push (x ∷ xs) b = ap (λ l. starts_of x ∷ l) (map_push xs b)

length_take : (xs : List (List ℕ)) (n : ℕ) → n < length xs → length (take n xs) ≡ n
length_take [] n h = absurd (omega arith)
length_take (x ∷ xs) zero h = refl
length_take (x ∷ xs) (suc n) h = ap suc (length_take xs n (omega arith))

pub tables_none : AreTables [] [] [] []
tables_none = record {
  checked = λ n h. absurd (omega (arith, h));
  blocks_are = refl;
  begun = refl;
  first = λ n h. absurd (omega (arith, h));
  owned = refl;
  owner = λ r h. absurd (omega (arith, h));
}

module _ (xs : List (List ℕ)) (bs : List BlockStarts) (fs os : List ℕ) (b : List ℕ) (good : IsObject b) (t : AreTables xs bs fs os) where
  tables_more : AreTables (xs ++ b ∷ []) (bs ++ starts_of b ∷ []) (fs ++ length os ∷ []) (os ++ replicate (symbols b) (length xs))
  tables_more = record {
    checked = λ n h.
        let c = length-append xs (b ∷ []) in
        elim (cases_lt n (length xs)) [
          | inl m ↦ subst IsObject (sym (get_or_append_left xs (b ∷ []) [] n m)) (t.checked n m)
          | inr g ↦
              let here : n - length xs ≡ 0 = omega (arith, c, g, h) in
              subst IsObject (sym (get_or-append_right xs (b ∷ []) (length xs) n [] refl g ∙ ap (λ k. get_or (b ∷ []) k []) here)) good
        ];
    blocks_are = ap (λ l. l ++ starts_of b ∷ []) t.blocks_are ∙ sym (map_push xs b);
    begun =
        let a = length-append fs (length os ∷ []) in
        let c = length-append xs (b ∷ []) in
        let d = t.begun in
        omega arith;
    first = λ n h.
        let c = length-append xs (b ∷ []) in
        let d = t.begun in
        elim (cases_lt n (length xs)) [
          | inl m ↦ get_or_append_left fs (length os ∷ []) 0 n (omega (arith, d, m)) ∙ t.first n m ∙ sym (start_more symbols xs b n (omega (arith, m)))
          | inr g ↦
              let same : n ≡ length xs = omega (arith, c, g, h) in
              let here : n - length xs ≡ 0 = omega (arith, same) in
              get_or-append_right fs (length os ∷ []) (length xs) n 0 d g ∙ ap (λ k. get_or (length os ∷ []) k 0) here ∙ (t.owned ∙ sym (start_last symbols xs b)) ∙ ap (group_start symbols (xs ++ b ∷ [])) (sym same)
        ];
    owned =
        let a = length-append os (replicate (symbols b) (length xs)) in
        let c : length (replicate (symbols b) (length xs)) ≡ symbols b = length-replicate (symbols b) (length xs) in
        let d = sum_by_push symbols xs b in
        let e = t.owned in
        omega arith;
    owner = λ r h.
        let d = sum_by_push symbols xs b in
        let e = t.owned in
        elim (cases_lt r (sum_by symbols xs)) [
          | inl m ↦ get_or_append_left os (replicate (symbols b) (length xs)) 0 r (omega (arith, e, m)) ∙ t.owner r m ∙ sym (group_old symbols xs b r m)
          | inr g ↦
              get_or-append_right os (replicate (symbols b) (length xs)) (sum_by symbols xs) r 0 e g ∙ at_replicate (symbols b) (r - sum_by symbols xs) (length xs) (omega (arith, d, g, h)) ∙ sym (group_new symbols xs b r g (omega (arith, d, h)))
        ];
  }

-- the tables of one object more of a list
pub tables_next : (all : List (List ℕ)) (bs bs2 : List BlockStarts) (fs os fs2 os2 : List ℕ) (n : ℕ) → n < length all → IsObject (get_or all n []) → AreTables (take n all) bs fs os
    → bs2 ≡ bs ++ starts_of (get_or all n []) ∷ [] → fs2 ≡ fs ++ length os ∷ [] → os2 ≡ os ++ replicate (symbols (get_or all n [])) n → AreTables (take (n + 1) all) bs2 fs2 os2
tables_next all bs bs2 fs os fs2 os2 n h good t eb ef eo =
    let b = get_or all n [] in
    let cut : take n all ++ b ∷ [] ≡ take (n + 1) all = sym (take-suc all n [] h) ∙ ap (λ k. take k all) (sym (add-one n)) in
    let long : length (take n all) ≡ n = length_take all n h in
    let P : List (List ℕ) × (List BlockStarts × (List ℕ × List ℕ)) → Type 0 = λ y. AreTables y.0 y.1.0 y.1.1.0 y.1.1.1 in
    subst P (λ z. (cut z, ((sym eb) z, ((sym ef) z, (ap (λ k. os ++ replicate (symbols b) k) long ∙ sym eo) z)))) (tables_more (take n all) bs fs os b good t)

-- the objects so far and one more
pub views_next : (all : List (List ℕ)) (n : ℕ) (b : List ℕ) → n < length all → b ≡ get_or all n [] → take n all ++ b ∷ [] ≡ take (n + 1) all
views_next all n b h e = ap (λ x. take n all ++ x ∷ []) e ∙ sym (take-suc all n [] h) ∙ ap (λ k. take k all) (sym (add-one n))
