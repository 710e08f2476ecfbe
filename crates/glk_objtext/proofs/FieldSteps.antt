-- One byte of a line, and the fields that it begins, goes on or ends.
use Rattle.std.proofs.Common.{◌≡◌, ◌+◌, ◌-◌, ◌<◌, ◌≤◌, ◌∙◌, ℕ, Bool, true, false, List, [], ◌∷◌, ◌++◌, length, take, drop, get_or, refl, ap, sym, subst, arith, cond, zero, suc, length-drop, get_or-drop, add-one, drop-cons, length-append}
use Rattle.std.proofs.lemmas.Bool.{false≢true}
use Rattle.std.proofs.lemmas.List.{drop_all, take_more}
use Rattle.glk_objtext.specs.declared.fields.Mode.{Mode}
use Rattle.glk_objtext.specs.declared.fields.Mode.TheVariants.{Between, Bare, Quoted, Escaped}
use Rattle.glk_objtext.specs.Fields.{next_mode, is_between, field_ended, fields_from, field_at, open_count}

-- a mode that is between fields
pub only_between : (m : Mode) → is_between m ≡ true → m ≡ Between
only_between Between h = refl
only_between Bare h = absurd (false≢true h)
only_between Quoted h = absurd (false≢true h)
only_between Escaped h = absurd (false≢true h)

-- a byte after which no field is open
pub byte_ends : (m : Mode) (f s : List ℕ) (b : ℕ) → is_between (next_mode m b) ≡ true → fields_from m f (b ∷ s) ≡ field_ended m f ++ fields_from Between [] s
unfolding fields_from
byte_ends m f s b h = rw h refl

-- a byte of a field
pub byte_goes_on : (m : Mode) (f s : List ℕ) (b : ℕ) → is_between (next_mode m b) ≡ false → fields_from m f (b ∷ s) ≡ fields_from (next_mode m b) (f ++ b ∷ []) s
unfolding fields_from
byte_goes_on m f s b h = rw h refl

pub at_end : (m : Mode) (f : List ℕ) → fields_from m f [] ≡ field_ended m f
unfolding fields_from
at_end m f = refl

length-ended : (m : Mode) (f : List ℕ) → length (field_ended m f) ≡ open_count m
length-ended Between f = refl
length-ended Bare f = refl
length-ended Quoted f = refl
length-ended Escaped f = refl

-- how many fields there are does not depend on the bytes so far
pub same_count : (m : Mode) (f g s : List ℕ) → length (fields_from m f s) ≡ length (fields_from m g s)
unfolding fields_from
same_count m f g [] = length-ended m f ∙ sym (length-ended m g)
same_count m f g (b ∷ s) =
    elim (is_between (next_mode m b)) as (λ v. length (cond v (field_ended m f ++ fields_from Between [] s) (fields_from (next_mode m b) (f ++ b ∷ []) s)) ≡ length (cond v (field_ended m g ++ fields_from Between [] s) (fields_from (next_mode m b) (g ++ b ∷ []) s))) [
      | true ↦ let e = length-ended m f in let d = length-ended m g in simp length-append (omega (arith, e, d))
      | false ↦ same_count (next_mode m b) (f ++ b ∷ []) (g ++ b ∷ []) s
    ]

-- one more byte, counted
pub count_step : (m next : Mode) (b n e : ℕ) (line : List ℕ) (i all : ℕ) → i < length line → b ≡ get_or line i 0 → next ≡ next_mode m b
    → e ≡ cond (is_between next) (open_count m) 0
    → n + length (fields_from m [] (drop i line)) ≡ all → n + e + length (fields_from next [] (drop (i + 1) line)) ≡ all
count_step m next b n k line i all h eb en ek had_all =
    let cut : drop i line ≡ b ∷ drop (i + 1) line = rw eb (rw (add-one, drop-cons line i 0) refl) in
    let had : n + length (fields_from m [] (b ∷ drop (i + 1) line)) ≡ all = rw (← cut) had_all in
    let P : Bool → Type 0 = λ v. is_between next ≡ v → k ≡ cond v (open_count m) 0 → n + k + length (fields_from next [] (drop (i + 1) line)) ≡ all in
    let cases : (v : Bool) → P v = λ v. elim v as P [
      | true ↦ λ is kk.
          let here : is_between (next_mode m b) ≡ true = rw (← en) is in
          let one = byte_ends m [] (drop (i + 1) line) b here in
          let len = length-ended m [] in
          let now : n + length (field_ended m [] ++ fields_from Between [] (drop (i + 1) line)) ≡ all = rw (← one) had in
          let is_it = only_between next is in
          rw is_it (let l = length-append (field_ended m []) (fields_from Between [] (drop (i + 1) line)) in omega (arith, l, len, now))
      | false ↦ λ is kk.
          let here : is_between (next_mode m b) ≡ false = rw (← en) is in
          let one = byte_goes_on m [] (drop (i + 1) line) b here in
          let now : n + length (fields_from (next_mode m b) (b ∷ []) (drop (i + 1) line)) ≡ all = rw (← one) had in
          let other = same_count (next_mode m b) (b ∷ []) [] (drop (i + 1) line) in
          rw en (omega (arith, other, now))
    ] in
    cases (is_between next) refl ek

-- a field takes a byte at least
pub few_step : (u v : Bool) (n e i : ℕ) → n + cond u 0 1 ≤ i → e ≡ cond v (cond u 0 1) 0 → n + e + cond v 0 1 ≤ i + 1
few_step true true n e i h k = omega arith
few_step true false n e i h k = omega arith
few_step false true n e i h k = omega arith
few_step false false n e i h k = omega arith

pub count_end : (m : Mode) (n : ℕ) (line : List ℕ) (i all : ℕ) → length line ≤ i → n + length (fields_from m [] (drop i line)) ≡ all → n + open_count m ≡ all
count_end m n line i all h e =
    let none : drop i line ≡ [] = drop_all i line h in
    let P : List ℕ → Type 0 = λ r. n + length (fields_from m [] r) ≡ all in
    let now : n + length (fields_from m [] []) ≡ all = subst P none e in
    let k = at_end m [] in
    let len = length-ended m [] in
    let last : n + length (field_ended m []) ≡ all = rw (← k) now in
    omega (arith, len, last)

-- the bytes of the field that is open
abbrev pub so_far : Mode → ℕ → ℕ → List ℕ → List ℕ
so_far m start i line = cond (is_between m) [] (take (i - start) (drop start line))

-- the field of a number in a list that one field begins
after_first : (f : List ℕ) (fs : List (List ℕ)) (n : ℕ) → 1 ≤ n → field_at (f ∷ fs) n ≡ field_at fs (n - 1)
after_first f fs zero h = absurd (omega arith)
after_first f fs (suc n) h = let e : suc n - 1 ≡ n = omega arith in rw e refl

-- one more byte of the open field
take_one : (line : List ℕ) (start b i : ℕ) → i < length line → b ≡ get_or line i 0 → start ≤ i
    → take (i + 1 - start) (drop start line) ≡ take (i - start) (drop start line) ++ b ∷ []
take_one line start b i h eb low =
    let len : i - start < length (drop start line) = simp length-drop (omega arith) in
    let one = take_more (drop start line) (i - start) 0 len in
    let k : i + 1 - start ≡ i - start + 1 = omega arith in
    let there : get_or (drop start line) (i - start) 0 ≡ b = let k : start + (i - start) ≡ i = omega arith in get_or-drop start line (i - start) 0 ∙ rw k (sym eb) in
    rw k (rw one (ap (λ (x : ℕ). take (i - start) (drop start line) ++ x ∷ []) there))

so_far_more : (v : Bool) (start s b i : ℕ) (line : List ℕ) → i < length line → b ≡ get_or line i 0 → start ≤ i → s ≡ cond v i start
    → take (i + 1 - s) (drop s line) ≡ cond v [] (take (i - start) (drop start line)) ++ b ∷ []
so_far_more true start s b i line h eb low es =
    let n : i - i ≡ 0 = omega arith in
    let one = take_one line i b i h eb (omega arith) in
    rw es (rw one (rw n refl))
so_far_more false start s b i line h eb low es = rw es (take_one line start b i h eb low)

-- the field of a number, one byte further on: by whether fields are open before it and after it
ends : (m : Mode) (u : Bool) → is_between m ≡ u → (b n e : ℕ) (f rest all : List ℕ) → field_at (field_ended m f ++ fields_from Between [] rest) n ≡ all → e ≡ cond u 0 1 → e ≤ n → field_at (fields_from Between [] rest) (n - e) ≡ all
ends m true um b n e f rest all had ee few = let P : Bool → Type 0 = λ v. field_at (cond v [] (f ∷ []) ++ fields_from Between [] rest) n ≡ all in let now = subst P um had in let z : n - e ≡ n = omega arith in rw z now
ends m false um b n e f rest all had ee few = let P : Bool → Type 0 = λ v. field_at (cond v [] (f ∷ []) ++ fields_from Between [] rest) n ≡ all in let now = subst P um had in let one = after_first f (fields_from Between [] rest) n (omega arith) in rw ee (sym one ∙ now)

step_cases : (m next : Mode) (u v : Bool) (b n e start s i : ℕ) (line rest all : List ℕ) → is_between m ≡ u → is_between next ≡ v → next ≡ next_mode m b → i < length line → b ≡ get_or line i 0 → start ≤ i
    → e ≡ cond v (cond u 0 1) 0 → e ≤ n → s ≡ cond u i start
    → field_at (fields_from m (cond u [] (take (i - start) (drop start line))) (b ∷ rest)) n ≡ all
    → field_at (fields_from next (cond v [] (take (i + 1 - s) (drop s line))) rest) (n - e) ≡ all
step_cases m next u true b n e start s i line rest all um vn en h eb low ee few es had =
    let is : is_between (next_mode m b) ≡ true = rw (← en) vn in
    let one = byte_ends m (cond u [] (take (i - start) (drop start line))) rest b is in
    let open_none = only_between next vn in
    rw open_none (ends m u um b n e (cond u [] (take (i - start) (drop start line))) rest all (rw one at had) ee few)
step_cases m next u false b n e start s i line rest all um vn en h eb low ee few es had =
    let is : is_between (next_mode m b) ≡ false = rw (← en) vn in
    let one = byte_goes_on m (cond u [] (take (i - start) (drop start line))) rest b is in
    let now = rw one at had in
    let more = so_far_more u start s b i line h eb low es in
    let z : n - e ≡ n = omega arith in
    rw (z, more, en) now

here_cases : (m next : Mode) (u v : Bool) (b n e : ℕ) (f rest all : List ℕ) → is_between m ≡ u → is_between next ≡ v → next ≡ next_mode m b
    → e ≡ cond v (cond u 0 1) 0 → n < e
    → field_at (fields_from m (cond u [] f) (b ∷ rest)) n ≡ all → f ≡ all
here_cases m next true true b n e f rest all um vn en ee few had = absurd (omega arith)
here_cases m next u false b n e f rest all um vn en ee few had = absurd (omega arith)
here_cases m next false true b n e f rest all um vn en ee few had =
    let is : is_between (next_mode m b) ≡ true = rw (← en) vn in
    let one = byte_ends m f rest b is in
    let now = rw one at had in
    let P : Bool → Type 0 = λ v. field_at (cond v [] (f ∷ []) ++ fields_from Between [] rest) n ≡ all in
    let last = subst P um now in
    let z : n ≡ 0 = omega arith in
    rw z at last

pub nth_step : (m next : Mode) (b n e start s i : ℕ) (line all : List ℕ) → i < length line → b ≡ get_or line i 0 → next ≡ next_mode m b → start ≤ i
    → e ≡ cond (is_between next) (open_count m) 0 → e ≤ n → s ≡ cond (is_between m) i start
    → field_at (fields_from m (so_far m start i line) (drop i line)) n ≡ all
    → field_at (fields_from next (so_far next s (i + 1) line) (drop (i + 1) line)) (n - e) ≡ all
nth_step m next b n e start s i line all h eb en low ee few es had =
    let cut : drop i line ≡ b ∷ drop (i + 1) line = rw eb (rw (add-one, drop-cons line i 0) refl) in
    let P : List ℕ → Type 0 = λ r. field_at (fields_from m (so_far m start i line) r) n ≡ all in
    step_cases m next (is_between m) (is_between next) b n e start s i line (drop (i + 1) line) all refl refl en h eb low ee few es (subst P cut had)

-- the field that a byte ends
pub nth_here : (m next : Mode) (b n e start i : ℕ) (line all : List ℕ) → i < length line → b ≡ get_or line i 0 → next ≡ next_mode m b
    → e ≡ cond (is_between next) (open_count m) 0 → n < e
    → field_at (fields_from m (so_far m start i line) (drop i line)) n ≡ all
    → take (i - start) (drop start line) ≡ all
nth_here m next b n e start i line all h eb en ee few had =
    let cut : drop i line ≡ b ∷ drop (i + 1) line = rw eb (rw (add-one, drop-cons line i 0) refl) in
    let P : List ℕ → Type 0 = λ r. field_at (fields_from m (so_far m start i line) r) n ≡ all in
    here_cases m next (is_between m) (is_between next) b n e (take (i - start) (drop start line)) (drop (i + 1) line) all refl refl en ee few (subst P cut had)

past_one : (f all : List ℕ) (n : ℕ) → 1 ≤ n → field_at (f ∷ []) n ≡ all → [] ≡ all
past_one f all zero h e = absurd (omega arith)
past_one f all (suc n) h e = e

-- the line's end, where a field is open or none is
end_cases : (m : Mode) (u : Bool) (n : ℕ) (f all : List ℕ) → is_between m ≡ u → field_at (fields_from m (cond u [] f) []) n ≡ all
    → (n < cond u 0 1 → f ≡ all) × (cond u 0 1 ≤ n → [] ≡ all)
end_cases m true n f all um had =
    let one = at_end m [] in
    let now = rw one at had in
    let P : Bool → Type 0 = λ v. field_at (cond v [] ([] ∷ [])) n ≡ all in
    (λ h. absurd (omega arith), λ h. subst P um now)
end_cases m false n f all um had =
    let one = at_end m f in
    let now = rw one at had in
    let P : Bool → Type 0 = λ v. field_at (cond v [] (f ∷ [])) n ≡ all in
    let last = subst P um now in
    (λ h. let z : n ≡ 0 = omega arith in rw z at last, λ h. past_one f all n h last)

pub nth_last : (m : Mode) (n e start i : ℕ) (line all : List ℕ) → i ≡ length line → e ≡ open_count m → n < e
    → field_at (fields_from m (so_far m start i line) (drop i line)) n ≡ all → take (length line - start) (drop start line) ≡ all
nth_last m n e start i line all h ee low had =
    let none = drop_all i line (omega arith) in
    let P : List ℕ → Type 0 = λ r. field_at (fields_from m (so_far m start i line) r) n ≡ all in
    rw (← h) ((end_cases m (is_between m) n (take (i - start) (drop start line)) all refl (subst P none had)).0 (omega arith))

pub nth_none : (m : Mode) (n e start i : ℕ) (line all : List ℕ) → i ≡ length line → e ≡ open_count m → e ≤ n
    → field_at (fields_from m (so_far m start i line) (drop i line)) n ≡ all → [] ≡ all
nth_none m n e start i line all h ee low had =
    let none = drop_all i line (omega arith) in
    let P : List ℕ → Type 0 = λ r. field_at (fields_from m (so_far m start i line) r) n ≡ all in
    (end_cases m (is_between m) n (take (i - start) (drop start line)) all refl (subst P none had)).1 (omega arith)

-- a field begins no later than here
pub began : (v : Bool) (s start i : ℕ) → s ≡ cond v i start → start ≤ i → s ≤ i + 1
began true s start i h low = omega arith
began false s start i h low = omega arith
