-- What stands in the bytes of a section.
use Rattle.std.proofs.Common.{◌≡◌, ℕ, zero, suc, ◌+◌, ◌-◌, ◌<◌, ◌≤◌, ◌⊎◌, ⊎_elim, inl, inr, List, [], ◌∷◌, ◌++◌, length, take, drop, replicate, get_or, refl, sym, ap, ◌∙◌, subst, arith}
use Rattle.std.specs.Prelude.{All, Contains}
use Rattle.std.proofs.lemmas.List.{length-append, length-replicate, get_or-replicate, ext_get_or}
use Rattle.std.proofs.lemmas.List.Elements.{All-nil, All-cons, Contains-append_left, Contains-append_right}
use mathlib.Core.Logic.{dite}
use native.Mathlib.Decide.{dec_lt}
use Rattle.glk_reloc.proofs.Splices.{spliced, length-spliced, spliced_before, spliced_inside, spliced_after}
use Rattle.glk_image.specs.declared.contents.Content.{Content}
use Rattle.glk_image.specs.Contents.{end_of, content_bytes, HasRoom, IsWithin, AreApart, with_content, with_contents}
use Rattle.glk_image.specs.Laws.{IsOutside, SectionHoldsContents, IsOneSection}

content_length : (c : Content) → HasRoom c → length (content_bytes c) ≡ c.size
content_length c room =
    let e = length-append c.bytes.now (replicate (c.size - length c.bytes.now) 0) in
    let z = length-replicate {A = ℕ} (c.size - length c.bytes.now) 0 in
    omega (arith, e, z)

-- what holds once contents were written
pub record HasPut (start : ℕ) (old : List ℕ) (contents : List Content) (new : List ℕ) : Type 0 where
  pub long : length new ≡ length old
  pub inside : (c : Content) (i p : ℕ) → Contains contents c → i < c.size → start + p ≡ c.at + i
      → get_or new p 0 ≡ get_or (content_bytes c) i 0
  pub outside : (p : ℕ) → All (IsOutside (start + p)) contents → get_or new p 0 ≡ get_or old p 0

-- an element of a list is the first one or one of the rest
contains_cases : (c : Content) (cs : List Content) (x : Content) → Contains (c ∷ cs) x → (c ≡ x) ⊎ Contains cs x
contains_cases c cs x (zero, low, is) = inl is
contains_cases c cs x (suc k, low, is) = inr (k, omega arith, is)

module _ (start : ℕ) (bytes : List ℕ) (c : Content) (room : HasRoom c) (from : start ≤ c.at) (to : end_of c ≤ start + length bytes) where
  abbrev pub here : ℕ
  here = c.at - start

  long_content : length (content_bytes c) ≡ c.size
  long_content = content_length c room

  room_here : here + length (content_bytes c) ≤ length bytes
  room_here = let e = long_content in omega arith

  as_spliced : with_content start bytes c ≡ spliced bytes here (content_bytes c)
  as_spliced =
      let e : end_of c - start ≡ here + length (content_bytes c) = (let l = long_content in omega arith) in
      ap (λ n. take here bytes ++ content_bytes c ++ drop n bytes) e

  pub put_long : length (with_content start bytes c) ≡ length bytes
  put_long = ap length as_spliced ∙ length-spliced bytes here (content_bytes c) room_here

  put_inside : (i p : ℕ) → i < c.size → start + p ≡ c.at + i → get_or (with_content start bytes c) p 0 ≡ get_or (content_bytes c) i 0
  put_inside i p low place =
      let e : p ≡ here + i = omega arith in
      let l = long_content in
      ap (λ xs. get_or xs p 0) as_spliced
      ∙ (ap (λ n. get_or (spliced bytes here (content_bytes c)) n 0) e ∙ spliced_inside bytes here (content_bytes c) room_here i (omega arith))

  put_outside : (p : ℕ) → IsOutside (start + p) c → get_or (with_content start bytes c) p 0 ≡ get_or bytes p 0
  put_outside p out =
      let l = long_content in
      ap (λ xs. get_or xs p 0) as_spliced
      ∙ ⊎_elim
      (λ (below : start + p < c.at). spliced_before bytes here (content_bytes c) room_here p (omega arith))
      (λ (after : end_of c ≤ start + p). spliced_after bytes here (content_bytes c) room_here p (omega arith))
      out

pub has_put : (start : ℕ) (old : List ℕ) (contents : List Content) → AreApart contents → All HasRoom contents → All (IsWithin start (start + length old)) contents → HasPut start old contents (with_contents start old contents)
unfolding with_contents
has_put start old [] apart rooms within = record {
  long = refl;
  inside = λ c i p in' low place. let h = in'.1 in absurd (omega arith);
  outside = λ p all. refl;
}
has_put start old (c ∷ cs) apart rooms within =
    let mid : List ℕ = with_content start old c in
    let room : HasRoom c = rooms 0 c (omega arith) in
    let here : IsWithin start (start + length old) c = within 0 c (omega arith) in
    let long : length mid ≡ length old = put_long start old c room here.0 here.1 in
    let P : ℕ → Type 0 = λ n. All (IsWithin start (start + n)) cs in
    let rest : HasPut start mid cs (with_contents start mid cs) =
    has_put start mid cs (λ i j d low high. apart (suc i) (suc j) d (omega arith) (omega arith)) (λ k d lt. rooms (suc k) d (omega arith))
    (subst P (sym long) (λ k d lt. within (suc k) d (omega arith))) in
    record {
      long = rest.long ∙ long;
      inside = λ x i p in' low place.
          ⊎_elim
          (λ (first : c ≡ x).
          let size : i < c.size = (let Q : Content → Type 0 = λ y. i < y.size in subst Q (sym first) low) in
          let at : start + p ≡ c.at + i = (let Q : Content → Type 0 = λ y. start + p ≡ y.at + i in subst Q (sym first) place) in
          let out : All (IsOutside (start + p)) cs = λ k d lt. let ends = apart 0 (suc k) d (omega arith) (omega arith) in inl (omega arith) in
          rest.outside p out ∙ (put_inside start old c room here.0 here.1 i p size at ∙ ap (λ y. get_or (content_bytes y) i 0) first))
          (λ (later : Contains cs x). rest.inside x i p later low place)
          (contains_cases c cs x in');
      outside = λ p all.
          rest.outside p (λ k d lt. all (suc k) d (omega arith)) ∙ put_outside start old c room here.0 here.1 p (all 0 c (omega arith));
    }

pub section_holds_contents : SectionHoldsContents
section_holds_contents padding start size contents apart rooms within =
    let ground : List ℕ = replicate size padding in
    let long : length ground ≡ size = length-replicate {A = ℕ} size padding in
    let P : ℕ → Type 0 = λ n. All (IsWithin start (start + n)) contents in
    let h : HasPut start ground contents (with_contents start ground contents) = has_put start ground contents apart rooms (subst P (sym long) within) in
    record {
      long = h.long ∙ long;
      inside = h.inside;
      outside = λ p low all. h.outside p all ∙ get_or-replicate size p padding 0 low;
    }

-- an address is in no content, or in one
abbrev Holder : ℕ → List Content → Type 0
Holder a contents = (c : Content) × Contains contents c × (c.at ≤ a) × (a < end_of c)

holder : (a : ℕ) (contents : List Content) → All (IsOutside a) contents ⊎ Holder a contents
holder a [] = inl (All-nil (IsOutside a))
holder a (c ∷ cs) =
    ⊎_elim
    (λ (all : All (IsOutside a) cs).
    dite (dec_lt a c.at)
    (λ below. inl (All-cons (IsOutside a) c cs (inl below) all))
    (λ above.
    dite (dec_lt a (end_of c))
    (λ within. inr (c, Contains-append_left (c ∷ []) cs c (0, omega arith, refl), (omega arith), within))
    (λ after. let past : end_of c ≤ a = omega arith in inl (All-cons (IsOutside a) c cs (inr past) all))))
    (λ (h : Holder a cs). inr (h.0, Contains-append_right (c ∷ []) cs h.0 h.1, h.2, h.3))
    (holder a cs)

pub one_section : IsOneSection
one_section padding start size contents a b x y =
    ext_get_or 0 a b (x.long ∙ sym y.long)
    (λ p lt.
    ⊎_elim
    (λ (all : All (IsOutside (start + p)) contents).
    let low : p < size = let e = x.long in omega arith in
    x.outside p low all ∙ sym (y.outside p low all))
    (λ (h : Holder (start + p) contents).
    let i : ℕ = start + p - h.0.at in
    let low = h.2 in
    let high = h.3 in
    let inside : i < h.0.size = omega arith in
    let place : start + p ≡ h.0.at + i = omega arith in
    x.inside h.0 i p h.1 inside place ∙ sym (y.inside h.0 i p h.1 inside place))
    (holder (start + p) contents))
