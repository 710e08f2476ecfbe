-- Strings of first use: one more string, and the offset of a string.
use Rattle.std.proofs.Common.{◌≡◌, ◌∙◌, ℕ, ◌+◌, ◌-◌, ◌^◌, ◌≤◌, min, List, [], ◌∷◌, ◌++◌, length, map, Bool, true, false, cond, Option, Some, None, refl, sym, ap, subst, arith, append_assoc, length-append}
use Rattle.std.specs.Prelude.{◌==◌, unwrap_or}
use Rattle.std.proofs.lemmas.List.{append-nil, map-append}
use Rattle.std.proofs.lemmas.Slice.Eq.{bytes_eq-Decides}
use Rattle.std.proofs.lemmas.Map.Text.{hash_map_updates_str}
use Rattle.std.specs.HashMap.{HashMap, get_by, UpdatesBy}
use Rattle.std.specs.Str.{bytes_eq}
use denote.Ref.{Bor}
use Rattle.glk_objdesc.specs.FirstUse.{is_among, with_first, with_each, concat_of, offset_in}
use Rattle.glk_objdesc.specs.Canonical.{clamped, text_offset, object_limit, pool_of, all_pkgs, autolib_path, def_name, sym_name, ref_name}
use Rattle.glk_objdesc.specs.declared.desc.ObjDesc.{ObjDesc}
use Rattle.glk_objdesc.specs.Views.{texts_of, Fits}

pub bytes_same : (x q : List ℕ) → bytes_eq x q ≡ true → x ≡ q
bytes_same x q is = let d = bytes_eq-Decides x q in grind (arith, d, is)

pub bytes_itself : (q : List ℕ) → bytes_eq q q ≡ true
bytes_itself q = let d = bytes_eq-Decides q q in grind (arith, d)

none_false : (b : Bool) (n : ℕ) → cond b (Some n) None ≡ None → b ≡ false
none_false true n is = let bad : Some n ≡ None = is in cc
none_false false n is = refl

some_true : (b : Bool) (n at : ℕ) → cond b (Some n) None ≡ Some at → b ≡ true
some_true true n at is = refl
some_true false n at is = let bad : None ≡ Some at = is in cc

pub concat_push : (xs : List (List ℕ)) (q : List ℕ) → concat_of (xs ++ q ∷ []) ≡ concat_of xs ++ q
unfolding concat_of
concat_push [] q = append-nil q
concat_push (x ∷ xs) q = ap (λ r. x ++ r) (concat_push xs q) ∙ sym (append_assoc x (concat_of xs) q)

either_true : (b t : Bool) → cond b true t ≡ false → (b ≡ false) × (t ≡ false)
either_true true t is = let bad : true ≡ false = is in (cc, cc)
either_true false t is = (refl, is)

-- the offset of a string that is not there is the end
pub offset_absent : (xs : List (List ℕ)) (q : List ℕ) → is_among xs q ≡ false → offset_in xs q ≡ length (concat_of xs)
unfolding is_among concat_of offset_in
offset_absent [] q is = refl
offset_absent (x ∷ xs) q is =
    let both = either_true (bytes_eq x q) (is_among xs q) is in
    rw both.0 (ap (λ n. length x + n) (offset_absent xs q both.1) ∙ sym (length-append x (concat_of xs)))

offset_le_by : (b : Bool) (l n m : ℕ) → n ≤ m → cond b 0 (l + n) ≤ l + m
offset_le_by true l n m h = omega arith
offset_le_by false l n m h = omega arith

pub offset_le : (xs : List (List ℕ)) (q : List ℕ) → offset_in xs q ≤ length (concat_of xs)
unfolding concat_of offset_in
offset_le [] q = omega arith
offset_le (x ∷ xs) q =
    let size = length-append x (concat_of xs) in
    let h = offset_le_by (bytes_eq x q) (length x) (offset_in xs q) (length (concat_of xs)) (offset_le xs q) in
    omega (arith, h, size)

push_by : (b t e : Bool) → cond b true (cond t true e) ≡ cond (cond b true t) true e
push_by true t e = refl
push_by false t e = refl

last_by : (e : Bool) → cond e true false ≡ cond false true e
last_by true = refl
last_by false = refl

pub stands_push : (xs : List (List ℕ)) (q p : List ℕ) → is_among (xs ++ q ∷ []) p ≡ cond (is_among xs p) true (bytes_eq q p)
unfolding is_among
stands_push [] q p = last_by (bytes_eq q p)
stands_push (x ∷ xs) q p = ap (λ r. cond (bytes_eq x p) true r) (stands_push xs q p) ∙ push_by (bytes_eq x p) (is_among xs p) (bytes_eq q p)

-- a string stays where it is
pub offset_stays : (xs ys : List (List ℕ)) (p : List ℕ) → is_among xs p ≡ true → offset_in (xs ++ ys) p ≡ offset_in xs p
unfolding is_among offset_in
offset_stays [] ys p is = let bad : false ≡ true = is in cc
offset_stays (x ∷ xs) ys p is = stays_by (bytes_eq x p) (is_among xs p) (length x) (offset_in (xs ++ ys) p) (offset_in xs p) is (λ h. offset_stays xs ys p h)
  where
    stays_by : (b t : Bool) (l m n : ℕ) → cond b true t ≡ true → (t ≡ true → m ≡ n) → cond b 0 (l + m) ≡ cond b 0 (l + n)
    stays_by true t l m n is h = refl
    stays_by false t l m n is h = ap (λ k. l + k) (h is)

offset_here_by : (b t : Bool) (l m n : ℕ) → cond b true t ≡ false → (t ≡ false → m ≡ n) → cond b 0 (l + m) ≡ l + n
offset_here_by true t l m n is h = let bad : true ≡ false = is in cc
offset_here_by false t l m n is h = ap (λ k. l + k) (h is)

-- a new string is at the end
pub offset_new : (xs : List (List ℕ)) (q : List ℕ) → is_among xs q ≡ false → offset_in (xs ++ q ∷ []) q ≡ length (concat_of xs)
unfolding is_among concat_of offset_in
offset_new [] q is = rw (bytes_itself q) refl
offset_new (x ∷ xs) q is =
    offset_here_by (bytes_eq x q) (is_among xs q) (length x) (offset_in (xs ++ q ∷ []) q) (length (concat_of xs)) is (λ h. offset_new xs q h)
    ∙ sym (length-append x (concat_of xs))

merged : (e t : Bool) (size n m : ℕ) → (e ≡ true → (t ≡ false) × (size ≡ m)) → (t ≡ true → n ≡ m)
    → cond e (Some size) (cond t (Some n) None) ≡ cond (cond t true e) (Some m) None
merged true true size n m h g = let bad : true ≡ false = (h refl).0 in cc
merged true false size n m h g = ap (λ k. Some k) (h refl).1
merged false true size n m h g = ap (λ k. Some k) (g refl)
merged false false size n m h g = refl

pub at_more : {S : Type 0} (m n : HashMap (Bor (List ℕ)) ℕ S) (xs : List (List ℕ)) (q : List ℕ) (size : ℕ)
    → Fits xs m size → is_among xs q ≡ false
    → UpdatesBy (λ x y. bytes_eq x.now y.now) (λ k. bytes_eq q k.now) m n (Some size)
    → (p : List ℕ) → get_by (λ k. bytes_eq p k.now) n ≡ cond (is_among (xs ++ q ∷ []) p) (Some (clamped (offset_in (xs ++ q ∷ []) p))) None
at_more m n xs q size fits none updates p =
    hash_map_updates_str q m n (Some size) updates p ∙ ap (λ r. cond (bytes_eq q p) (Some size) r) (fits.at p)
    ∙ merged (bytes_eq q p) (is_among xs p) size (clamped (offset_in xs p)) (clamped (offset_in (xs ++ q ∷ []) p))
    (λ same.
    let e : q ≡ p = bytes_same q p same in (
      subst (λ (k : List ℕ). is_among xs k ≡ false) e none,
      fits.size_is ∙ ap clamped (sym (offset_new xs q none)) ∙ ap (λ (k : List ℕ). clamped (offset_in (xs ++ q ∷ []) k)) e,
    ))
    (λ there. ap clamped (sym (offset_stays xs (q ∷ []) p there)))
    ∙ ap (λ t. cond t (Some (clamped (offset_in (xs ++ q ∷ []) p))) None) (sym (stands_push xs q p))

pub size_more : (xs : List (List ℕ)) (q : List ℕ) (size more : ℕ) → size ≡ clamped (length (concat_of xs)) → more ≡ min (size + length q) (2 ^ 64 - 1)
    → more ≡ clamped (length (concat_of (xs ++ q ∷ [])))
unfolding clamped
size_more xs q size more e is = omega (arith, e, is, ap length (concat_push xs q), length-append (concat_of xs) q)

pub texts_push : (now reserved strings : List (Bor (List ℕ))) (e : Bor (List ℕ)) → now ≡ reserved ++ e ∷ [] → reserved ≡ strings → texts_of now ≡ texts_of strings ++ e.now ∷ []
texts_push now reserved strings e pushed same = ap texts_of pushed ∙ ap (λ (s : List (Bor (List ℕ))). texts_of (s ++ e ∷ [])) same ∙ map-append (λ (b : Bor (List ℕ)). b.now) strings (e ∷ [])

-- a string that is noted nowhere is not there
pub not_noted : {S : Type 0} (m : HashMap (Bor (List ℕ)) ℕ S) (xs : List (List ℕ)) (q : List ℕ) (size : ℕ) → Fits xs m size → None ≡ get_by (λ k. bytes_eq q k.now) m → is_among xs q ≡ false
not_noted m xs q size fits none = none_false (is_among xs q) (clamped (offset_in xs q)) (sym (fits.at q) ∙ sym none)

pub noted : {S : Type 0} (m : HashMap (Bor (List ℕ)) ℕ S) (xs : List (List ℕ)) (q : List ℕ) (size at : ℕ) → Fits xs m size → Some at ≡ get_by (λ k. bytes_eq q k.now) m → is_among xs q ≡ true
noted m xs q size at fits some = some_true (is_among xs q) (clamped (offset_in xs q)) at (sym (fits.at q) ∙ sym some)

pub fits_more : {S : Type 0} (m n : HashMap (Bor (List ℕ)) ℕ S) (xs ys : List (List ℕ)) (q : List ℕ) (size more : ℕ)
    → Fits xs m size → None ≡ get_by (λ k. bytes_eq q k.now) m → ys ≡ xs ++ q ∷ []
    → UpdatesBy (λ x y. bytes_eq x.now y.now) (λ k. bytes_eq q k.now) m n (Some size) → more ≡ min (size + length q) (2 ^ 64 - 1) → Fits ys n more
fits_more m n xs ys q size more fits none e updates is =
    let P : List (List ℕ) → Type 0 = λ zs. Fits zs n more in
    subst P (sym e) (record { at = at_more m n xs q size fits (not_noted m xs q size fits none) updates; size_is = size_more xs q size more fits.size_is is })

pub first_empty : (xs : List (List ℕ)) (q : List ℕ) → (length q == 0) ≡ true → xs ≡ with_first xs q
unfolding with_first
first_empty xs q is = rw is refl

pub first_old : (xs : List (List ℕ)) (q : List ℕ) → (length q == 0) ≡ false → is_among xs q ≡ true → xs ≡ with_first xs q
unfolding with_first
first_old xs q full is = rw (full, is) refl

pub first_new : (xs : List (List ℕ)) (q : List ℕ) → (length q == 0) ≡ false → is_among xs q ≡ false → xs ++ q ∷ [] ≡ with_first xs q
unfolding with_first
first_new xs q full is = rw (full, is) refl

-- strings in two parts
pub each_append : (done xs ys : List (List ℕ)) → with_each done (xs ++ ys) ≡ with_each (with_each done xs) ys
unfolding with_each
each_append done [] ys = refl
each_append done (x ∷ xs) ys = each_append (with_first done x) xs ys

pub each_nothing : (done xs : List (List ℕ)) → with_each done ([] ∷ xs) ≡ with_each done xs
unfolding with_each with_first
each_nothing done xs = refl

value_by : (b : Bool) (n size : ℕ) → (b ≡ false → size ≡ n) → unwrap_or (cond b (Some n) None) size ≡ n
value_by true n size h = refl
value_by false n size h = h refl

-- the offset that is noted, or the end
pub offset_value : {S : Type 0} (m : HashMap (Bor (List ℕ)) ℕ S) (xs : List (List ℕ)) (q : List ℕ) (size : ℕ) → Fits xs m size
    → unwrap_or (get_by (λ k. bytes_eq q k.now) m) size ≡ clamped (offset_in xs q)
offset_value m xs q size fits =
    ap (λ (r : Option ℕ). unwrap_or r size) (fits.at q)
    ∙ value_by (is_among xs q) (clamped (offset_in xs q)) size (λ none. fits.size_is ∙ ap clamped (sym (offset_absent xs q none)))

pub offset_exact : (xs : List (List ℕ)) (q : List ℕ) → length (concat_of xs) ≤ object_limit → clamped (offset_in xs q) ≡ offset_in xs q
unfolding clamped
offset_exact xs q small = omega (arith, offset_le xs q)

pub offset_empty : (xs : List (List ℕ)) (q : List ℕ) → (length q == 0) ≡ true → 0 ≡ text_offset xs q
unfolding text_offset
offset_empty xs q is = rw is refl

pub offset_full : (xs : List (List ℕ)) (q : List ℕ) (at : ℕ) → (length q == 0) ≡ false → at ≡ offset_in xs q → 96 + at ≡ text_offset xs q
unfolding text_offset
offset_full xs q at is e = rw is (ap (λ n. 96 + n) e)

-- more strings after those that came already
pub each_step : (p q front xs ys : List (List ℕ)) → p ≡ with_each [] front → q ≡ with_each p ys → ys ≡ xs → q ≡ with_each [] (front ++ xs)
each_step p q front xs ys before step same =
    step ∙ ap (λ (d : List (List ℕ)). with_each d ys) before ∙ ap (λ (s : List (List ℕ)). with_each (with_each [] front) s) same ∙ sym (each_append [] front xs)

pub pool_is : (d : ObjDesc) (p0 p1 p2 p3 p4 p5 p6 p7 p8 p9 s1 s2 s3 s4 s5 s6 s7 s8 s9 : List (List ℕ)) → p0 ≡ []
    → p1 ≡ with_each p0 s1 → s1 ≡ map autolib_path d.autolib
    → p2 ≡ with_each p1 s2 → s2 ≡ d.pkgs
    → p3 ≡ with_each p2 s3 → s3 ≡ d.files
    → p4 ≡ with_each p3 s4 → s4 ≡ map def_name d.defs
    → p5 ≡ with_each p4 s5 → s5 ≡ map def_name d.hash64
    → p6 ≡ with_each p5 s6 → s6 ≡ map def_name d.hashed
    → p7 ≡ with_each p6 s7 → s7 ≡ map def_name d.ndefs
    → p8 ≡ with_each p7 s8 → s8 ≡ map sym_name d.refs
    → p9 ≡ with_each p8 s9 → s9 ≡ map ref_name d.ref_names
    → p9 ≡ pool_of d
unfolding pool_of
pool_is d p0 p1 p2 p3 p4 p5 p6 p7 p8 p9 s1 s2 s3 s4 s5 s6 s7 s8 s9 e0 e1 f1 e2 f2 e3 f3 e4 f4 e5 f5 e6 f6 e7 f7 e8 f8 e9 f9 =
    let c1 : p1 ≡ with_each [] (map autolib_path d.autolib) = e1 ∙ ap (λ (x : List (List ℕ)). with_each x s1) e0 ∙ ap (λ (x : List (List ℕ)). with_each [] x) f1 in
    let c2 = each_step p1 p2 _ (all_pkgs d) ([] ∷ s2) c1 (e2 ∙ sym (each_nothing p1 s2)) (ap (λ (x : List (List ℕ)). [] ∷ x) f2) in
    let c3 = each_step p2 p3 _ d.files s3 c2 e3 f3 in
    let c4 = each_step p3 p4 _ (map def_name d.defs) s4 c3 e4 f4 in
    let c5 = each_step p4 p5 _ (map def_name d.hash64) s5 c4 e5 f5 in
    let c6 = each_step p5 p6 _ (map def_name d.hashed) s6 c5 e6 f6 in
    let c7 = each_step p6 p7 _ (map def_name d.ndefs) s7 c6 e7 f7 in
    let c8 = each_step p7 p8 _ (map sym_name d.refs) s8 c7 e8 f8 in
    each_step p8 p9 _ (map ref_name d.ref_names) s9 c8 e9 f9
