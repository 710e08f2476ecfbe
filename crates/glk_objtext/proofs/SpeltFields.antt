-- Each spelling is one field.
use Rattle.std.proofs.Common.{◌≡◌, ℕ, ℤ, pos, negsuc, suc, ◌^◌, ◌<◌, ◌≤◌, true, false, List, [], ◌∷◌, ◌++◌, length, refl, arith, eqb, codes, length-append}
use Rattle.std.specs.Prelude.{decimal}
use Rattle.std.specs.Fmt.{signed_decimal}
use Rattle.std.specs.List.{list_all, prefix_len}
use Rattle.std.specs.Str.Parse.{AllDigits}
use Rattle.std.proofs.lemmas.Bool.{and_parts, false≢true}
use Rattle.std.proofs.lemmas.Fmt.{decimal_is_IsNumeral}
use Rattle.std.proofs.lemmas.Str.Parse.{digit_from_value}
use Rattle.hex.specs.Hex.{IsBytes, encode_lower, lower_digits}
use Rattle.hex.proofs.HexLemmas.{length-encode_with}
use Rattle.glk_obj.specs.declared.records.SymRef.{SymRef}
use Rattle.glk_objdesc.specs.declared.desc.SymDesc.{SymDesc}
use Rattle.glk_base.specs.Lines.{is_blank, is_skipped}
use Rattle.glk_objtext.specs.Numbers.{IsWithin}
use Rattle.glk_objtext.specs.Octets.{octets_text}
use Rattle.glk_objtext.specs.Strings.{is_bare, is_bare_byte, is_low_hex, string_text, NoZeros}
use Rattle.glk_objtext.specs.Targets.{target_text, package_text}
use Rattle.glk_objtext.specs.Text.{symbol_fields, hash_fields, fields_of_line}
use Rattle.glk_objtext.specs.Fields.{next_mode}
use Rattle.glk_objtext.specs.Words.{spelling}
use Rattle.glk_objtext.specs.declared.line.DefBlock.{DefBlock}
use Rattle.glk_objtext.specs.declared.line.DefBlock.TheVariants.{Symdef, Hashed64def, Hasheddef, Nonpkgdef}
use Rattle.glk_objtext.specs.declared.line.Line.{Line}
use Rattle.glk_objtext.specs.declared.line.Line.TheVariants.{Header, Import, Package, Source, Symbol, Content, Relocation, Auxiliary, Reference, Flags, Named}
use Rattle.glk_objtext.specs.declared.words.Word.{Word}
use Rattle.glk_objtext.specs.declared.words.Word.TheVariants.{Object, Autolib, Pkg, File, Def, Hash64, Hash, Data, Reloc, Aux, Ndef, Ref, RefFlags, RefName}
use Rattle.glk_objtext.proofs.SpellingLaws.{all_low}
use Rattle.glk_objtext.proofs.Cases.{OfWords, by_package, number_spelling, by_spelling}
use Rattle.glk_objtext.proofs.FieldLaws.{IsField, AreFields, bare_field, quoted_field}
use Rattle.glk_objtext.proofs.ValueLaws.{IsSpelt, IsSpeltSymbol, IsSpeltHash, within_word, within_long}

-- bytes of bare words, at least one
bare_some : (f : List ℕ) → 0 < length f → list_all is_bare_byte f ≡ true → IsField f
bare_some [] some h = absurd (omega arith)
bare_some (b ∷ f) some h = bare_field b f h

bare_both : (a s : List ℕ) → list_all is_bare_byte a ≡ true → list_all is_bare_byte s ≡ true → list_all is_bare_byte (a ++ s) ≡ true
bare_both [] s h k = k
bare_both (b ∷ a) s h k =
    let both = and_parts (is_bare_byte b) (list_all is_bare_byte a) h in
    rw (both.0, bare_both a s both.1 k) refl

-- digits
digit_bare : (d : ℕ) → 48 ≤ d → d ≤ 57 → is_bare_byte d ≡ true
unfolding is_bare_byte
digit_bare d low high = grind arith

digits_bare : (ds : List ℕ) → AllDigits 10 ds → list_all is_bare_byte ds ≡ true
digits_bare [] h = refl
digits_bare (d ∷ ds) h =
    let r = digit_from_value d h.0 in
    let e : is_bare_byte d ≡ true = digit_bare d (omega (arith, r)) (omega (arith, r)) in
    rw (e, digits_bare ds h.1) refl

decimal_bare : (n : ℕ) → n < 2 ^ 64 → list_all is_bare_byte (decimal n) ≡ true
decimal_bare n h = digits_bare (decimal n) (decimal_is_IsNumeral n h).0.1

number_field : (n : ℕ) → n < 2 ^ 64 → IsField (decimal n)
number_field n h = bare_some (decimal n) (decimal_is_IsNumeral n h).0.0 (decimal_bare n h)

minus_bare : is_bare_byte 45 ≡ true
unfolding is_bare_byte
minus_bare = refl

signed_field : (limit : ℕ) (z : ℤ) → limit ≤ 2 ^ 63 → IsWithin limit z → IsField (signed_decimal z)
signed_field limit (pos n) few low = number_field n (omega arith)
signed_field limit (negsuc n) few low = bare_field 45 (decimal (suc n)) (let e = minus_bare in rw (e, decimal_bare (suc n) (omega arith)) refl)

-- bytes
low_bare : (d : ℕ) → is_low_hex d ≡ true → is_bare_byte d ≡ true
unfolding is_bare_byte is_low_hex
low_bare d h = grind arith

all_bare : (ds : List ℕ) → list_all is_low_hex ds ≡ true → list_all is_bare_byte ds ≡ true
all_bare [] h = refl
all_bare (d ∷ ds) h =
    let both = and_parts (is_low_hex d) (list_all is_low_hex ds) h in
    let e : is_bare_byte d ≡ true = low_bare d both.0 in
    rw (e, all_bare ds both.1) refl

octets_field : (s : List ℕ) → IsBytes s → IsField (octets_text s)
unfolding octets_text
octets_field [] h = bare_field 45 [] (let e = minus_bare in rw e refl)
octets_field (b ∷ s) h =
    let len = length-encode_with lower_digits (b ∷ s) in
    bare_some (encode_lower (b ∷ s)) (omega (arith, len)) (all_bare (encode_lower (b ∷ s)) (all_low (b ∷ s) h))

-- references
word_bare : OfWords (λ n. list_all is_bare_byte (package_text n) ≡ true)
unfolding package_text is_bare_byte
word_bare = (refl, refl, refl, refl, refl, refl)

package_bare : (n : ℕ) → n < 2 ^ 31 → list_all is_bare_byte (package_text n) ≡ true
package_bare n h =
    by_package (λ k. list_all is_bare_byte (package_text k) ≡ true) word_bare
    (λ k some low. rw (number_spelling k some low) (decimal_bare k (omega arith))) n h

colon_bare : is_bare_byte 58 ≡ true
unfolding is_bare_byte
colon_bare = refl

target_field : (r : SymRef) → r.pkg < 2 ^ 31 → r.sym < 2 ^ 32 → IsField (target_text r)
unfolding target_text
target_field r low small =
    let len = length-append (package_text r.pkg) (58 ∷ decimal r.sym) in
    let e = colon_bare in
    bare_some (package_text r.pkg ++ 58 ∷ decimal r.sym) (omega (arith, len))
    (bare_both (package_text r.pkg) (58 ∷ decimal r.sym) (package_bare r.pkg low) (rw (e, decimal_bare r.sym (omega arith)) refl))

-- strings
bare_string : (s : List ℕ) → is_bare s ≡ true → IsField s
unfolding is_bare
bare_string [] h = absurd (false≢true h)
bare_string (b ∷ s) h = bare_field b s (and_parts _ (list_all is_bare_byte (b ∷ s)) h).1

string_field : (s : List ℕ) → NoZeros s → IsField (string_text s)
string_field s h = by_spelling IsField s (bare_string s) (quoted_field s h)

-- the words of lines are fields, and begin with no blank and with no mark of a comment
pub word_field : (w : Word) → IsField (spelling w)
unfolding spelling next_mode
word_field Object = record { one = refl; printed = refl; dark = refl }
word_field Autolib = record { one = refl; printed = refl; dark = refl }
word_field Pkg = record { one = refl; printed = refl; dark = refl }
word_field File = record { one = refl; printed = refl; dark = refl }
word_field Def = record { one = refl; printed = refl; dark = refl }
word_field Hash64 = record { one = refl; printed = refl; dark = refl }
word_field Hash = record { one = refl; printed = refl; dark = refl }
word_field Data = record { one = refl; printed = refl; dark = refl }
word_field Reloc = record { one = refl; printed = refl; dark = refl }
word_field Aux = record { one = refl; printed = refl; dark = refl }
word_field Ndef = record { one = refl; printed = refl; dark = refl }
word_field Ref = record { one = refl; printed = refl; dark = refl }
word_field RefFlags = record { one = refl; printed = refl; dark = refl }
word_field RefName = record { one = refl; printed = refl; dark = refl }

not_skipped : (b : ℕ) (w rest : List ℕ) → eqb b 35 ≡ false → is_skipped ((b ∷ w) ++ rest) ≡ false
not_skipped b w rest h =
    let some : eqb (length ((b ∷ w) ++ rest)) 0 ≡ false = grind arith in
    rw (some, h) refl

pub word_prefix : (w : Word) (rest : List ℕ) → (prefix_len is_blank (spelling w ++ rest) ≡ 0) × (is_skipped (spelling w ++ rest) ≡ false)
unfolding spelling
word_prefix Object rest = (refl, not_skipped 111 (codes "bject") rest refl)
word_prefix Autolib rest = (refl, not_skipped 97 (codes "utolib") rest refl)
word_prefix Pkg rest = (refl, not_skipped 112 (codes "kg") rest refl)
word_prefix File rest = (refl, not_skipped 102 (codes "ile") rest refl)
word_prefix Def rest = (refl, not_skipped 100 (codes "ef") rest refl)
word_prefix Hash64 rest = (refl, not_skipped 104 (codes "ash64") rest refl)
word_prefix Hash rest = (refl, not_skipped 104 (codes "ash") rest refl)
word_prefix Data rest = (refl, not_skipped 100 (codes "ata") rest refl)
word_prefix Reloc rest = (refl, not_skipped 114 (codes "eloc") rest refl)
word_prefix Aux rest = (refl, not_skipped 97 (codes "ux") rest refl)
word_prefix Ndef rest = (refl, not_skipped 110 (codes "def") rest refl)
word_prefix Ref rest = (refl, not_skipped 114 (codes "ef") rest refl)
word_prefix RefFlags rest = (refl, not_skipped 114 (codes "efflags") rest refl)
word_prefix RefName rest = (refl, not_skipped 114 (codes "efname") rest refl)

-- the fields of a symbol, and those after them
symbol_spelt : (s : SymDesc) (more : List (List ℕ)) → IsSpeltSymbol s → AreFields more → AreFields (symbol_fields s ++ more)
symbol_spelt s more h rest =
    let t = h.typed in
    let abi = t.abi in
    let kind = t.kind in
    let flag = t.flag in
    let flag2 = t.flag2 in
    let size = t.size in
    let align = t.align in
    (string_field s.name h.name, (number_field s.abi (omega arith), (number_field s.kind (omega arith), (number_field s.flag (omega arith), (number_field s.flag2 (omega arith), (number_field s.size (omega arith), (number_field s.align (omega arith), rest)))))))

hash_spelt : (block : DefBlock) (hash : List ℕ) → IsSpeltHash block hash → AreFields (hash_fields block hash)
hash_spelt Symdef hash h = tt
hash_spelt Hashed64def hash h = (octets_field hash h.0, tt)
hash_spelt Hasheddef hash h = (octets_field hash h, tt)
hash_spelt Nonpkgdef hash h = tt

-- the fields of a line
pub line_spelt : (line : Line) → IsSpelt line → AreFields (fields_of_line line)
line_spelt (Header flags fingerprint) h = (number_field flags (omega (arith, h.0)), (octets_field fingerprint h.1, tt))
line_spelt (Import a) h = (string_field a.path h.0, (octets_field a.fingerprint h.1, tt))
line_spelt (Package path) h = (string_field path h, tt)
line_spelt (Source file) h = (string_field file h, tt)
line_spelt (Symbol block sym hash) h = symbol_spelt sym (hash_fields block hash) h.0 (hash_spelt block hash h.1)
line_spelt (Content bytes) h = (octets_field bytes h, tt)
line_spelt (Relocation r) h =
    let t = h.0 in
    let size = t.size in
    let kind = t.kind in
    (signed_field 2147483648 r.off (omega arith) (within_word r.off t.off), (number_field r.size (omega arith), (number_field r.kind (omega arith), (signed_field 9223372036854775808 r.add (omega arith) (within_long r.add t.add), (target_field r.target h.1 t.target.sym, tt)))))
line_spelt (Auxiliary a) h =
    let t = h.0 in
    let kind = t.kind in
    (number_field a.kind (omega arith), (target_field a.target h.1 t.target.sym, tt))
line_spelt (Reference sym) h = symbol_spelt sym [] h tt
line_spelt (Flags r) h =
    let t = h.0 in
    let flag = t.flag in
    let flag2 = t.flag2 in
    (target_field r.target h.1 t.target.sym, (number_field r.flag (omega arith), (number_field r.flag2 (omega arith), tt)))
line_spelt (Named r) h = (target_field r.target h.1 h.0.sym, (string_field r.name h.2, tt))
