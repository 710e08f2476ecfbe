-- The numbers, bytes and references that fields spell are those of the text form, and no others.
use Rattle.std.proofs.Common.{◌≡◌, ◌∙◌, ℕ, ℤ, pos, negsuc, ◌+◌, ◌*◌, ◌-◌, ◌^◌, ◌<◌, ◌≤◌, Bool, true, false, not, List, [], ◌∷◌, ◌++◌, length, get_or, take, drop, refl, ap, sym, subst, arith, cond, inl, inr, eqb, nat_lt, suc, codes, Result, Ok, Err}
use Rattle.std.specs.Prelude.{◌&&◌, decimal}
use Rattle.std.specs.List.{list_all, position_or_len}
use Rattle.std.specs.Str.{bytes_eq}
use Rattle.std.specs.Str.Parse.{digits_value}
use Rattle.std.specs.Cmp.Lexicographic.{bytes_decides}
use Rattle.std.proofs.lemmas.Bool.{and_parts, eqb-true, eqb-false, ltb-true}
use Rattle.std.proofs.lemmas.List.Sums.{split_at_first}
use Rattle.hex.specs.Hex.{decode_of, decode_pairs, encode_lower, encode_with, pair_value, IsBytes}
use Rattle.hex.specs.declared.error.FromHexError.{FromHexError}
use Rattle.hex.proofs.HexLemmas.{decode_of-ok, decode_of-even}
use Rattle.hex.proofs.Pairs.{cons_byte, decode_pairs-ok_pair}
use Rattle.glk_obj.specs.declared.records.SymRef.{SymRef}
use Rattle.glk_objtext.specs.Answers.{◌>>=◌}
use Rattle.glk_objtext.specs.Forms.{IsNumber, IsSigned, IsOctets, IsSized, IsReference}
use Rattle.glk_objtext.specs.Numbers.{number_of, signed_of, below_zero}
use Rattle.glk_objtext.specs.Octets.{octets_of, pairs_of, sized_of, octets_text, or_bad_string}
use Rattle.glk_objtext.specs.Strings.{is_low_hex, hex_value}
use Rattle.glk_objtext.specs.Targets.{package_of, package_text, target_of, target_text, target_at, entry_of}
use Rattle.glk_objtext.proofs.Cases.{number_spelling}
use Rattle.glk_objtext.proofs.DigitFacts.{decoded_value, pair_encoded}
use Rattle.glk_objtext.proofs.NumberFacts.{number_read}
use Rattle.glk_objtext.proofs.SpellingLaws.{signed_read, octets_read, sized_read}
use Rattle.glk_objtext.proofs.StringForms.{chosen, err_ok}
use Rattle.glk_objtext.proofs.TargetLaws.{target_read}

-- a part that reads, and what follows it
pub bind_ok : {A B : Type 0} (r : Result A ℕ) (f : A → Result B ℕ) (y : B) → (r >>= f) ≡ Ok y → (x : A) × (r ≡ Ok x) × (f x ≡ Ok y)
bind_ok (Ok x) f y h = (x, refl, h)
bind_ok (Err e) f y h = absurd (err_ok e y h)

abbrev pub read_as : {A : Type 0} → A → Result A ℕ
read_as x = Ok x

pub same_ok : {A : Type 0} (x y : A) → read_as x ≡ read_as y → x ≡ y
same_ok x y h = cc

-- what is read where nothing else is
abbrev pub OrElse : {A : Type 0} → Result A ℕ → ℕ → Type 0
OrElse {A} r rule = ((x : A) → ¬ (r ≡ Ok x)) → r ≡ Err rule

-- Numbers.

pub number_back : (limit : ℕ) (field : List ℕ) (n : ℕ) → number_of limit field ≡ Ok n → IsNumber limit field n
unfolding number_of
number_back limit field n h =
    let v = digits_value 10 field in
    elim (chosen (nat_lt v limit && bytes_eq (decimal v) field) (Ok v) (Err 5) (Ok n) h) [
      | inl c ↦
          let both = and_parts (nat_lt v limit) (bytes_eq (decimal v) field) c.0 in
          let e : v ≡ n = same_ok v n c.1 in
          let is : decimal v ≡ field = (bytes_decides (decimal v) field).0 both.1 in
          let low : v < limit = ltb-true v limit both.0 in
          record { below = subst (λ (k : ℕ). k < limit) e low; spelled = sym is ∙ ap decimal e }
      | inr c ↦ absurd (err_ok 5 n c.1)
    ]

pub number_is : (limit : ℕ) (field : List ℕ) (n : ℕ) → limit ≤ 2 ^ 64 → IsNumber limit field n → number_of limit field ≡ Ok n
number_is limit field n few is = ap (number_of limit) is.spelled ∙ number_read limit n few is.below

pub number_else : (limit : ℕ) (field : List ℕ) → OrElse (number_of limit field) 5
unfolding number_of
number_else limit field h =
    let v = digits_value 10 field in
    elim (nat_lt v limit && bytes_eq (decimal v) field) as (λ b. ((x : ℕ) → ¬ (cond {A = Result ℕ ℕ} b (Ok v) (Err 5) ≡ Ok x)) → cond {A = Result ℕ ℕ} b (Ok v) (Err 5) ≡ Err 5) [
      | true ↦ λ k. absurd (k v refl)
      | false ↦ λ k. refl
    ] h

-- Numbers with a sign.

below_ok : (n : ℕ) (z : ℤ) → below_zero n ≡ Ok z → (0 < n) × (z ≡ negsuc (n - 1))
below_ok n z h =
    elim (chosen (eqb n 0) (Err 5) (Ok (negsuc (n - 1))) (Ok z) h) [
      | inl c ↦ absurd (err_ok 5 z c.1)
      | inr c ↦ let other = eqb-false n 0 c.0 in (omega arith, sym (same_ok (negsuc (n - 1)) z c.1))
    ]

first_is : (field : List ℕ) (b : ℕ) → 0 < b → eqb (get_or field 0 0) b ≡ true → field ≡ b ∷ drop 1 field
first_is [] b some h = let e = eqb-true 0 b h in absurd (omega arith)
first_is (x ∷ s) b some h = let e : x ≡ b = eqb-true x b h in rw e refl

pub signed_back : (limit : ℕ) (field : List ℕ) (z : ℤ) → signed_of limit field ≡ Ok z → IsSigned limit field z
unfolding signed_of
signed_back limit field z h =
    elim (chosen (eqb (get_or field 0 0) 45) (number_of (limit + 1) (drop 1 field) >>= below_zero) (number_of limit field >>= (λ n. Ok (pos n))) (Ok z) h) [
      | inl c ↦
          let read = bind_ok (number_of (limit + 1) (drop 1 field)) below_zero z c.1 in
          let n = read.0 in
          let number = number_back (limit + 1) (drop 1 field) n read.1 in
          let value = below_ok n z read.2 in
          let e = value.1 in
          let low = number.below in
          let some : 0 < n = value.0 in
          let back : suc (n - 1) ≡ n = omega arith in
          rw e (record {
            within = omega arith;
            spelled = first_is field 45 (omega arith) c.0 ∙ ap (λ (x : List ℕ). 45 ∷ x) (number.spelled ∙ ap decimal (sym back));
          })
      | inr c ↦
          let read = bind_ok (number_of limit field) (λ n. Ok (pos n)) z c.1 in
          let number = number_back limit field read.0 read.1 in
          let e : pos read.0 ≡ z = same_ok (pos read.0) z read.2 in
          subst (λ (y : ℤ). IsSigned limit field y) e (record { within = number.below; spelled = number.spelled })
    ]

pub signed_is : (limit : ℕ) (field : List ℕ) (z : ℤ) → limit ≤ 2 ^ 63 → IsSigned limit field z → signed_of limit field ≡ Ok z
signed_is limit field z few is = ap (signed_of limit) is.spelled ∙ signed_read limit z few is.within

abbrev refused_as : (A : Type 0) → ℕ → Result A ℕ
refused_as A e = Err e

err_moved : (A B : Type 0) (e rule : ℕ) → refused_as A e ≡ refused_as A rule → refused_as B e ≡ refused_as B rule
err_moved A B e rule h = let same : e ≡ rule = cc in ap (refused_as B) same

bind_else : {A B : Type 0} (r : Result A ℕ) (f : A → Result B ℕ) (rule : ℕ) → OrElse r rule → ((x : A) → OrElse (f x) rule) → OrElse (r >>= f) rule
bind_else (Ok x) f rule first next h = next x h
bind_else {A} {B} (Err e) f rule first next h = err_moved A B e rule (first (λ x. err_ok e x))

below_else : (n : ℕ) → OrElse (below_zero n) 5
below_else n h = elim (eqb n 0) as (λ b. ((x : ℤ) → ¬ (cond {A = Result ℤ ℕ} b (Err 5) (Ok (negsuc (n - 1))) ≡ Ok x)) → cond {A = Result ℤ ℕ} b (Err 5) (Ok (negsuc (n - 1))) ≡ Err 5) [
  | true ↦ λ k. refl
  | false ↦ λ k. absurd (k (negsuc (n - 1)) refl)
] h

by_sign : (b : Bool) (x y : Result ℤ ℕ) → OrElse x 5 → OrElse y 5 → OrElse (cond b x y) 5
by_sign true x y one other = one
by_sign false x y one other = other

pub signed_else : (limit : ℕ) (field : List ℕ) → OrElse (signed_of limit field) 5
unfolding signed_of
signed_else limit field =
    by_sign (eqb (get_or field 0 0) 45) (number_of (limit + 1) (drop 1 field) >>= below_zero) (number_of limit field >>= (λ n. Ok (pos n)))
    (bind_else (number_of (limit + 1) (drop 1 field)) below_zero 5 (number_else (limit + 1) (drop 1 field)) below_else)
    (bind_else (number_of limit field) (λ n. Ok (pos n)) 5 (number_else limit field) (λ n h. absurd (h (pos n) refl)))

-- Bytes.

cons_ok : (v : ℕ) (r : Result (List ℕ) FromHexError) (bytes : List ℕ) → cons_byte v r ≡ Ok bytes → (rest : List ℕ) × (r ≡ Ok rest) × (bytes ≡ v ∷ rest)
cons_ok v (Ok rest) bytes h = (rest, refl, cc)
cons_ok v (Err e) bytes h = cc h

-- lower-case digits are those of the bytes that they decode to
pairs_back : (i : ℕ) (s bytes : List ℕ) → list_all is_low_hex s ≡ true → decode_pairs i s ≡ Ok bytes → s ≡ encode_lower bytes
unfolding decode_pairs encode_with
pairs_back i [] bytes low h = let e : [] ≡ bytes = cc in rw (← e) refl
pairs_back i (a ∷ []) bytes low h = cc h
pairs_back i (a ∷ b ∷ rest) bytes low h =
    let first = and_parts (is_low_hex a) (list_all is_low_hex (b ∷ rest)) low in
    let second = and_parts (is_low_hex b) (list_all is_low_hex rest) first.1 in
    let v = hex_value a * 16 + hex_value b in
    let pair : pair_value a b i ≡ Ok v = let x = decoded_value a first.0 in let y = decoded_value b second.0 in rw (x, y) refl in
    let read = cons_ok v (decode_pairs (i + 2) rest) bytes (sym (decode_pairs-ok_pair i a b v rest pair) ∙ h) in
    let more = pairs_back (i + 2) rest read.0 second.1 read.1 in
    ap (λ (x : List ℕ). a ∷ b ∷ x) more ∙ sym (pair_encoded a b read.0 first.0 second.0) ∙ ap encode_lower (sym read.2)

bytes_ok : (r : Result (List ℕ) FromHexError) (s : List ℕ) → or_bad_string r ≡ Ok s → r ≡ Ok s
bytes_ok (Ok t) s h = ap (λ (x : List ℕ). Ok x) (same_ok t s h)
bytes_ok (Err e) s h = absurd (err_ok 6 s h)

-- pairs of digits, and their bytes
pub pairs_are : (field s : List ℕ) → pairs_of field ≡ Ok s → (field ≡ encode_lower s) × (length field ≡ 2 * length s) × IsBytes s
unfolding pairs_of
pairs_are field s h =
    elim (chosen (list_all is_low_hex field) (or_bad_string (decode_of field)) (Err 6) (Ok s) h) [
      | inl c ↦
          let read = bytes_ok (decode_of field) s c.1 in
          let facts = decode_of-ok field s read in
          (pairs_back 0 field s c.0 (sym (decode_of-even field facts.0) ∙ read), facts.2, facts.3)
      | inr c ↦ absurd (err_ok 6 s c.1)
    ]

encoded_text : (s : List ℕ) → 0 < length s → encode_lower s ≡ octets_text s
unfolding octets_text
encoded_text [] some = absurd (omega arith)
encoded_text (b ∷ s) some = refl

no_octets : IsOctets (45 ∷ []) []
unfolding octets_text
no_octets = record { bytes = λ i. omega arith; spelled = refl }

pub octets_back : (field s : List ℕ) → 0 < length field → octets_of field ≡ Ok s → IsOctets field s
unfolding octets_of
octets_back field s some h =
    elim (chosen (bytes_eq field (45 ∷ [])) (Ok []) (pairs_of field) (Ok s) h) [
      | inl c ↦
          let e : field ≡ 45 ∷ [] = (bytes_decides field (45 ∷ [])).0 c.0 in
          let none : [] ≡ s = same_ok [] s c.1 in
          rw e (subst (λ (x : List ℕ). IsOctets (45 ∷ []) x) none no_octets)
      | inr c ↦
          let are = pairs_are field s c.1 in
          let len = are.1 in
          record { bytes = are.2; spelled = are.0 ∙ encoded_text s (omega arith) }
    ]

pub octets_are : (field s : List ℕ) → IsOctets field s → octets_of field ≡ Ok s
octets_are field s is = ap octets_of is.spelled ∙ octets_read s is.bytes

pub sized_back : (n : ℕ) (field s : List ℕ) → 0 < n → sized_of n field ≡ Ok s → IsSized n field s
unfolding sized_of
sized_back n field s some h =
    elim (chosen (eqb (length field) (2 * n)) (pairs_of field) (Err 6) (Ok s) h) [
      | inl c ↦
          let are = pairs_are field s c.1 in
          let len = are.1 in
          let size : length field ≡ 2 * n = eqb-true (length field) (2 * n) c.0 in
          let k : length s ≡ n = omega arith in
          record { octets = record { bytes = are.2; spelled = are.0 ∙ encoded_text s (omega arith) }; size = k }
      | inr c ↦ absurd (err_ok 6 s c.1)
    ]

pub sized_is : (n : ℕ) (field s : List ℕ) → 0 < n → IsSized n field s → sized_of n field ≡ Ok s
sized_is n field s some is = ap (sized_of n) is.octets.spelled ∙ sized_read n s is.octets.bytes is.size some

bytes_else : (r : Result (List ℕ) FromHexError) → OrElse (or_bad_string r) 6
bytes_else (Ok s) h = absurd (h s refl)
bytes_else (Err e) h = refl

by_bytes : (b : Bool) (x y : Result (List ℕ) ℕ) → OrElse x 6 → OrElse y 6 → OrElse (cond b x y) 6
by_bytes true x y one other = one
by_bytes false x y one other = other

pairs_else : (field : List ℕ) → OrElse (pairs_of field) 6
unfolding pairs_of
pairs_else field = by_bytes (list_all is_low_hex field) (or_bad_string (decode_of field)) (Err 6) (bytes_else (decode_of field)) (λ h. refl)

pub octets_else : (field : List ℕ) → OrElse (octets_of field) 6
unfolding octets_of
octets_else field = by_bytes (bytes_eq field (45 ∷ [])) (Ok []) (pairs_of field) (λ h. absurd (h [] refl)) (pairs_else field)

pub sized_else : (n : ℕ) (field : List ℕ) → OrElse (sized_of n field) 6
unfolding sized_of
sized_else n field = by_bytes (eqb (length field) (2 * n)) (pairs_of field) (Err 6) (pairs_else field) (λ h. refl)

-- References.

-- a package's number that its spelling gives
abbrev IsPackage : List ℕ → ℕ → Type 0
IsPackage name pkg = (name ≡ package_text pkg) × (pkg < 2 ^ 31)

word_texts : (package_text 0 ≡ codes "nil") × (package_text 2147483647 ≡ codes "none") × (package_text 2147483646 ≡ codes "h64") × (package_text 2147483645 ≡ codes "h") × (package_text 2147483644 ≡ codes "builtin") × (package_text 2147483643 ≡ codes "self")
unfolding package_text
word_texts = (refl, refl, refl, refl, refl, refl)

by_word : (name word : List ℕ) (value pkg : ℕ) (else_is : Result ℕ ℕ) → word ≡ package_text value → value < 2 ^ 31 → (else_is ≡ Ok pkg → IsPackage name pkg)
    → cond (bytes_eq name word) (Ok value) else_is ≡ Ok pkg → IsPackage name pkg
by_word name word value pkg else_is text small other h =
    elim (chosen (bytes_eq name word) (Ok value) else_is (Ok pkg) h) [
      | inl c ↦
          let e : value ≡ pkg = same_ok value pkg c.1 in
          let named : name ≡ package_text value = (bytes_decides name word).0 c.0 ∙ text in
          subst (λ (k : ℕ). IsPackage name k) e (named, small)
      | inr c ↦ other c.1
    ]

entry_back : (name : List ℕ) (pkg : ℕ) → entry_of name ≡ Ok pkg → IsPackage name pkg
entry_back name pkg h =
    let read = bind_ok (number_of 2147483643 name) (λ n. cond (eqb n 0) (Err 5) (Ok n)) pkg h in
    let n = read.0 in
    let number = number_back 2147483643 name n read.1 in
    let low = number.below in
    elim (chosen (eqb n 0) (Err 5) (Ok n) (Ok pkg) read.2) [
      | inl c ↦ absurd (err_ok 5 pkg c.1)
      | inr c ↦
          let e : n ≡ pkg = same_ok n pkg c.1 in
          let other = eqb-false n 0 c.0 in
          let text = number_spelling n (omega arith) low in
          let small : n < 2 ^ 31 = omega arith in
          subst (λ (k : ℕ). IsPackage name k) e (number.spelled ∙ sym text, small)
    ]

package_back : (name : List ℕ) (pkg : ℕ) → package_of name ≡ Ok pkg → IsPackage name pkg
unfolding package_of
package_back name pkg h =
    by_word name (codes "nil") 0 pkg _ (sym word_texts.0) (omega arith)
    (by_word name (codes "none") 2147483647 pkg _ (sym word_texts.1) (omega arith)
    (by_word name (codes "h64") 2147483646 pkg _ (sym word_texts.2) (omega arith)
    (by_word name (codes "h") 2147483645 pkg _ (sym word_texts.3) (omega arith)
    (by_word name (codes "builtin") 2147483644 pkg _ (sym word_texts.4) (omega arith)
    (by_word name (codes "self") 2147483643 pkg (entry_of name) (sym word_texts.5) (omega arith)
    (entry_back name pkg))))))
    h

colon_first : (s : List ℕ) → position_or_len (λ b. eqb b 58) s < length s → eqb (get_or s (position_or_len (λ b. eqb b 58) s) 0) 58 ≡ true
colon_first [] h = absurd (omega arith)
colon_first (b ∷ s) h = elim (eqb b 58) as (λ v. eqb b 58 ≡ v → cond (not v) (1 + position_or_len (λ x. eqb x 58) s) 0 < length (b ∷ s) → eqb (get_or (b ∷ s) (cond (not v) (1 + position_or_len (λ x. eqb x 58) s) 0) 0) 58 ≡ true) [
  | true ↦ λ e k. e
  | false ↦ λ e k. let one : 1 + position_or_len (λ x. eqb x 58) s ≡ suc (position_or_len (λ x. eqb x 58) s) = omega arith in rw one (colon_first s (omega arith))
] refl h

target_parts : (i : ℕ) (field : List ℕ) (r : SymRef) → target_at i field ≡ Ok r → IsPackage (take i field) r.pkg × IsNumber (2 ^ 32) (drop (i + 1) field) r.sym
target_parts i field r h =
    let name = bind_ok (package_of (take i field)) _ r h in
    let symbol = bind_ok (number_of 4294967296 (drop (i + 1) field)) _ r name.2 in
    let e : record { pkg = name.0; sym = symbol.0 } ≡ r = same_ok _ r symbol.2 in
    let P : SymRef → Type 0 = λ x. IsPackage (take i field) x.pkg × IsNumber (2 ^ 32) (drop (i + 1) field) x.sym in
    subst P e (package_back (take i field) name.0 name.1, number_back 4294967296 (drop (i + 1) field) symbol.0 symbol.1)

pub reference_back : (field : List ℕ) (r : SymRef) → target_of field ≡ Ok r → IsReference field r
unfolding target_of target_text
reference_back field r h =
    let i = position_or_len (λ b. eqb b 58) field in
    elim (chosen (nat_lt i (length field)) (target_at i field) (Err 5) (Ok r) h) [
      | inl c ↦
          let inside : i < length field = ltb-true i (length field) c.0 in
          let parts = target_parts i field r c.1 in
          let colon : get_or field i 0 ≡ 58 = eqb-true (get_or field i 0) 58 (colon_first field inside) in
          let whole : field ≡ take i field ++ (get_or field i 0 ∷ drop (i + 1) field) = split_at_first (λ b. eqb b 58) field 0 inside in
          record {
            pkg = parts.0.1;
            sym = parts.1.below;
            spelled = whole ∙ ap (λ (b : ℕ). take i field ++ (b ∷ drop (i + 1) field)) colon ∙ ap (λ (x : List ℕ). x ++ (58 ∷ drop (i + 1) field)) parts.0.0
                ∙ ap (λ (x : List ℕ). package_text r.pkg ++ (58 ∷ x)) parts.1.spelled;
          }
      | inr c ↦ absurd (err_ok 5 r c.1)
    ]

pub reference_is : (field : List ℕ) (r : SymRef) → IsReference field r → target_of field ≡ Ok r
reference_is field r is = ap target_of is.spelled ∙ target_read r is.pkg is.sym

by_name : {A : Type 0} (b : Bool) (x y : Result A ℕ) → OrElse x 5 → OrElse y 5 → OrElse (cond b x y) 5
by_name true x y one other = one
by_name false x y one other = other

known_else : {A : Type 0} (x : A) → OrElse (Ok x) 5
known_else x h = absurd (h x refl)

package_else : (name : List ℕ) → OrElse (package_of name) 5
unfolding package_of
package_else name =
    by_name (bytes_eq name (codes "nil")) _ _ (known_else 0)
    (by_name (bytes_eq name (codes "none")) _ _ (known_else 2147483647)
    (by_name (bytes_eq name (codes "h64")) _ _ (known_else 2147483646)
    (by_name (bytes_eq name (codes "h")) _ _ (known_else 2147483645)
    (by_name (bytes_eq name (codes "builtin")) _ _ (known_else 2147483644)
    (by_name (bytes_eq name (codes "self")) _ _ (known_else 2147483643)
    (bind_else (number_of 2147483643 name) _ 5 (number_else 2147483643 name) (λ n. by_name (eqb n 0) (Err 5) (Ok n) (λ h. refl) (known_else n))))))))

pub reference_else : (field : List ℕ) → OrElse (target_of field) 5
unfolding target_of
reference_else field =
    let i = position_or_len (λ b. eqb b 58) field in
    by_name (nat_lt i (length field)) (target_at i field) (Err 5)
    (bind_else (package_of (take i field)) _ 5 (package_else (take i field)) (λ pkg. bind_else (number_of 4294967296 (drop (i + 1) field)) _ 5 (number_else 4294967296 (drop (i + 1) field)) (λ n. known_else _)))
    (λ h. refl)
