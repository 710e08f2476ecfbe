-- Contents written into two parts, each with its own, are written into the whole.
use Rattle.std.proofs.Common.{◌≡◌, ℕ, suc, ◌+◌, ◌-◌, ◌<◌, ◌≤◌, List, [], ◌∷◌, ◌++◌, length, take, drop, get_or, refl, sym, ap, ◌∙◌, subst, arith}
use Rattle.std.specs.Prelude.{All}
use Rattle.std.proofs.lemmas.List.{append_assoc, length-drop, length-take-le, take-append-drop, take-append-le, drop-append-le, get_or-take, get_or-drop, get_or_default}
use Rattle.std.proofs.lemmas.List.Elements.{All-same, All-take}
use Rattle.std.proofs.Math.Seq.{take-append-add, drop-append-add}
use mathlib.Core.Logic.{dite}
use native.Mathlib.Decide.{dec_lt}
use Rattle.glk_image.specs.declared.contents.Content.{Content}
use Rattle.glk_image.specs.Contents.{end_of, content_bytes, HasRoom, IsWithin, AreApart, with_content, with_contents}
use Rattle.glk_image.proofs.ContentLemmas.{put_long}

-- A content in the first part, and one in the second.

module _ (start : ℕ) (l r : List ℕ) (c : Content) where
  in_first : start ≤ c.at → end_of c ≤ start + length l → with_content start (l ++ r) c ≡ with_content start l c ++ r
  in_first from to =
      let front : take (c.at - start) (l ++ r) ≡ take (c.at - start) l = take-append-le (c.at - start) l r (omega arith) in
      let back : drop (end_of c - start) (l ++ r) ≡ drop (end_of c - start) l ++ r = drop-append-le (end_of c - start) l r (omega arith) in
      ap (λ xs. xs ++ content_bytes c ++ drop (end_of c - start) (l ++ r)) front
      ∙ (ap (λ xs. take (c.at - start) l ++ content_bytes c ++ xs) back
      ∙ sym (append_assoc (take (c.at - start) l ++ content_bytes c) (drop (end_of c - start) l) r))

  in_second : start + length l ≤ c.at → with_content start (l ++ r) c ≡ l ++ with_content (start + length l) r c
  in_second from =
      let k : ℕ = c.at - (start + length l) in
      let m : ℕ = end_of c - (start + length l) in
      let k_is : c.at - start ≡ length l + k = omega arith in
      let m_is : end_of c - start ≡ length l + m = omega arith in
      let front : take (c.at - start) (l ++ r) ≡ l ++ take k r = ap (λ n. take n (l ++ r)) k_is ∙ take-append-add l r k in
      let back : drop (end_of c - start) (l ++ r) ≡ drop m r = ap (λ n. drop n (l ++ r)) m_is ∙ drop-append-add l r m in
      ap (λ xs. xs ++ content_bytes c ++ drop (end_of c - start) (l ++ r)) front
      ∙ (ap (λ xs. l ++ take k r ++ content_bytes c ++ xs) back
      ∙ (append_assoc (l ++ take k r) (content_bytes c) (drop m r)
      ∙ (append_assoc l (take k r) (content_bytes c ++ drop m r)
      ∙ ap (λ xs. l ++ xs) (sym (append_assoc (take k r) (content_bytes c) (drop m r))))))

all_second : (start : ℕ) (l r : List ℕ) (cs : List Content) → All (λ c. start + length l ≤ c.at) cs
    → with_contents start (l ++ r) cs ≡ l ++ with_contents (start + length l) r cs
unfolding with_contents
all_second start l r [] from = refl
all_second start l r (c ∷ cs) from =
    ap (λ xs. with_contents start xs cs) (in_second start l r c (from 0 c (omega arith)))
    ∙ all_second start l (with_content (start + length l) r c) cs (λ k d lt. from (suc k) d (omega arith))

joined_contents : (start : ℕ) (l r : List ℕ) (fs gs : List Content) → All HasRoom fs → All (IsWithin start (start + length l)) fs
    → All (λ c. start + length l ≤ c.at) gs
    → with_contents start (l ++ r) (fs ++ gs) ≡ with_contents start l fs ++ with_contents (start + length l) r gs
unfolding with_contents
joined_contents start l r [] gs rooms within from = all_second start l r gs from
joined_contents start l r (c ∷ fs) gs rooms within from =
    let room : HasRoom c = rooms 0 c (omega arith) in
    let here : IsWithin start (start + length l) c = within 0 c (omega arith) in
    let long : length (with_content start l c) ≡ length l = put_long start l c room here.0 here.1 in
    let Within : ℕ → Type 0 = λ n. All (IsWithin start (start + n)) fs in
    let From : ℕ → Type 0 = λ n. All (λ x. start + n ≤ x.at) gs in
    ap (λ xs. with_contents start xs (fs ++ gs)) (in_first start l r c here.0 here.1)
    ∙ (joined_contents start (with_content start l c) r fs gs (λ k d lt. rooms (suc k) d (omega arith))
    (subst Within (sym long) (λ k d lt. within (suc k) d (omega arith))) (subst From (sym long) from)
    ∙ ap (λ n. with_contents start (with_content start l c) fs ++ with_contents (start + n) r gs) long)

-- Contents that are cut before content n.

module _ (contents : List Content) (n : ℕ) (d : Content) (lt : n < length contents) (apart : AreApart contents) where
  abbrev middle : ℕ
  middle = (get_or contents n d).at

  first_after : (gs : List Content) → gs ≡ drop n contents → (get_or gs 0 d).at ≡ middle
  first_after gs is =
      let e : n + 0 ≡ n = omega arith in
      ap (λ l. (get_or l 0 d).at) is ∙ (ap (λ f. f.at) (get_or-drop n contents 0 d) ∙ ap (λ k. (get_or contents k d).at) e)

  left_ends : All (λ f. end_of f ≤ middle) (take n contents)
  left_ends k e h =
      let long : length (take n contents) ≡ n = length-take-le n contents (omega arith) in
      let k_lt : k < n = omega arith in
      let P : Content → Type 0 = λ f. end_of f ≤ middle in
      subst P (sym (get_or-take n contents k e k_lt ∙ get_or_default contents k e d (omega arith))) (apart k n d k_lt lt)

  right_starts : All (λ g. middle ≤ g.at) (drop n contents)
  right_starts k e h =
      let long : length (drop n contents) ≡ length contents - n = length-drop n contents in
      let k_lt : n + k < length contents = omega arith in
      let P : Content → Type 0 = λ g. middle ≤ g.at in
      subst P (sym (get_or-drop n contents k e ∙ get_or_default contents (n + k) e d k_lt))
      (dite (dec_lt 0 k)
      (λ later. let ends = apart n (n + k) d (omega arith) k_lt in omega arith)
      (λ first.
      let here : n + k ≡ n = omega arith in
      let Q : ℕ → Type 0 = λ i. middle ≤ (get_or contents i d).at in
      let same : middle ≤ middle = omega arith in
      subst Q (sym here) same))

  right_ends : (limit : ℕ) → All (λ g. end_of g ≤ limit) contents → All (λ g. end_of g ≤ limit) (drop n contents)
  right_ends limit inside k e h =
      let long : length (drop n contents) ≡ length contents - n = length-drop n contents in
      let k_lt : n + k < length contents = omega arith in
      let P : Content → Type 0 = λ g. end_of g ≤ limit in
      subst P (sym (get_or-drop n contents k e)) (inside (n + k) e k_lt)

-- the contents after the cut are in the bytes after it
pub cut_within : (start n size left right : ℕ) (contents gs : List Content) (d : Content) → n < length contents → AreApart contents
    → All (IsWithin start (start + size)) contents → gs ≡ drop n contents → left ≡ (get_or gs 0 d).at - start → right + left ≡ size
    → All (IsWithin (get_or gs 0 d).at ((get_or gs 0 d).at + right)) gs
cut_within start n size left right contents gs d lt apart inside is left_is right_is =
    let first : (get_or gs 0 d).at ≡ middle contents n d lt apart = first_after contents n d lt apart gs is in
    let above : start ≤ (get_or contents n d).at = (inside n d lt).0 in
    let P : ℕ → Type 0 = λ m. All (IsWithin m (m + right)) gs in
    let whole : (get_or contents n d).at + right ≡ start + size = omega arith in
    let Q : ℕ → Type 0 = λ m. All (IsWithin (get_or contents n d).at m) gs in
    subst P (sym first)
    (subst Q (sym whole)
    (All-same (IsWithin (get_or contents n d).at (start + size)) gs (drop n contents) is
    (λ k e h. (right_starts contents n d lt apart k e h, right_ends contents n d lt apart (start + size) (λ j f low. (inside j f low).1) k e h))))

-- what two threads wrote before and after the cut
pub filled_halves : (start n : ℕ) (old l l' r r' : List ℕ) (contents fs gs : List Content) (d : Content) → n < length contents
    → AreApart contents → All HasRoom contents → All (IsWithin start (start + length old)) contents
    → fs ≡ take n contents → gs ≡ drop n contents → old ≡ l ++ r → length l ≡ (get_or gs 0 d).at - start
    → l' ≡ with_contents start l fs → r' ≡ with_contents (get_or gs 0 d).at r gs
    → l' ++ r' ≡ with_contents start old contents
filled_halves start n old l l' r r' contents fs gs d lt apart rooms inside fs_are gs_are old_is left_is l_is r_is =
    let first : (get_or gs 0 d).at ≡ (get_or contents n d).at = first_after contents n d lt apart gs gs_are in
    let above : start ≤ (get_or contents n d).at = (inside n d lt).0 in
    let cut : (get_or contents n d).at ≡ start + length l = omega arith in
    let cut' : (get_or gs 0 d).at ≡ start + length l = omega arith in
    let whole : fs ++ gs ≡ contents = ap (λ x. x ++ gs) fs_are ∙ (ap (λ x. take n contents ++ x) gs_are ∙ take-append-drop n contents) in
    let Within : ℕ → Type 0 = λ m. All (IsWithin start m) fs in
    let within : All (IsWithin start (start + length l)) fs =
    subst Within cut
    (All-same (IsWithin start (get_or contents n d).at) fs (take n contents) fs_are
    (λ k e h. ((All-take (IsWithin start (start + length old)) n contents inside k e h).0, left_ends contents n d lt apart k e h))) in
    let From : ℕ → Type 0 = λ m. All (λ g. m ≤ g.at) gs in
    let from : All (λ g. start + length l ≤ g.at) gs =
    subst From cut (All-same (λ g. (get_or contents n d).at ≤ g.at) gs (drop n contents) gs_are (right_starts contents n d lt apart)) in
    let left_rooms : All HasRoom fs = All-same HasRoom fs (take n contents) fs_are (All-take HasRoom n contents rooms) in
    ap (λ x. x ++ r') l_is
    ∙ (ap (λ x. with_contents start l fs ++ x) (r_is ∙ ap (λ m. with_contents m r gs) cut')
    ∙ (sym (joined_contents start l r fs gs left_rooms within from)
    ∙ (ap (λ x. with_contents start x (fs ++ gs)) (sym old_is) ∙ ap (with_contents start old) whole)))
