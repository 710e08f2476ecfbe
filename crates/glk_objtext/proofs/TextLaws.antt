-- Reading the canonical text of a description gives back the description.
use Rattle.std.proofs.Common.{◌≡◌, ℕ, ◌+◌, ◌∙◌, true, false, List, [], ◌∷◌, ◌++◌, length, map, refl, ap, sym, eqb, Ok}
use Rattle.std.specs.List.{All, flat_map}
use Rattle.std.proofs.lemmas.List.{nil_from_length}
use Rattle.std.proofs.lemmas.List.Elements.{All-nil, All-cons, All-head, All-tail, All-append, All-map}
use Rattle.hex.specs.Hex.{IsBytes}
use Rattle.glk_objdesc.specs.Printable.{IsPrintable, IsPrintableDef}
use Rattle.glk_objdesc.specs.Typed.{IsTyped, IsTypedDef}
use Rattle.glk_objdesc.specs.declared.desc.DefDesc.{DefDesc}
use Rattle.glk_objdesc.specs.declared.desc.ObjDesc.{ObjDesc}
use Rattle.glk_objtext.specs.Bytes.{HasBytes, HasBytesDef}
use Rattle.glk_objtext.specs.Grammar.{at_start, after, line_at}
use Rattle.glk_base.specs.Lines.{trimmed_line, is_skipped}
use Rattle.glk_objtext.specs.Reading.{read_lines, read_text, onto_lines, answer_of_lines}
use Rattle.glk_objtext.specs.Rules.{next_number}
use Rattle.glk_objtext.specs.Text.{after_space, fields_of_line, line_text, content_lines, def_lines, lines_of, text_of}
use Rattle.glk_objtext.specs.Values.{word_of_line}
use Rattle.glk_objtext.specs.Words.{spelling, word_of, word_among, arity}
use Rattle.glk_objtext.specs.declared.line.DefBlock.{DefBlock}
use Rattle.glk_objtext.specs.declared.line.DefBlock.TheVariants.{Symdef, Hashed64def, Hasheddef, Nonpkgdef}
use Rattle.glk_objtext.specs.declared.line.Line.{Line}
use Rattle.glk_objtext.specs.declared.line.Line.TheVariants.{Header, Import, Package, Source, Symbol, Content, Relocation, Auxiliary, Reference, Flags, Named}
use Rattle.glk_objtext.specs.declared.stage.Stage.{Stage}
use Rattle.glk_objtext.specs.declared.words.Word.{Word}
use Rattle.glk_objtext.specs.declared.words.Word.TheVariants.{Object, Autolib, Pkg, File, Def, Hash64, Hash, Data, Reloc, Aux, Ndef, Ref, RefFlags, RefName}
use Rattle.glk_objtext.proofs.DescriptionLaws.{description_back}
use Rattle.glk_objtext.proofs.FieldLaws.{fields_back, line_printed}
use Rattle.glk_objtext.proofs.LineLaws.{trimmed_back, lines_back, ArePrinted}
use Rattle.glk_objtext.proofs.OrderLaws.{MayCome, IsRun, lines_run}
use Rattle.glk_objtext.proofs.ReadSteps.{passed_over, good_line, all_read}
use Rattle.glk_objtext.proofs.SpeltFields.{word_field, word_prefix, line_spelt}
use Rattle.glk_objtext.proofs.ValueLaws.{IsSpelt, IsSpeltSymbol, IsSpeltHash, no_zeros, value_back}

-- words are read as they are spelled
word_back : (w : Word) → word_of (spelling w) ≡ Ok w
unfolding word_among spelling
word_back Object = refl
word_back Autolib = refl
word_back Pkg = refl
word_back File = refl
word_back Def = refl
word_back Hash64 = refl
word_back Hash = refl
word_back Data = refl
word_back Reloc = refl
word_back Aux = refl
word_back Ndef = refl
word_back Ref = refl
word_back RefFlags = refl
word_back RefName = refl

-- a line has as many fields as its word asks for
counted : (line : Line) (w : List ℕ) → eqb (length (w ∷ fields_of_line line)) (arity (word_of_line line) + 1) ≡ true
unfolding arity
counted (Header flags fingerprint) w = refl
counted (Import a) w = refl
counted (Package path) w = refl
counted (Source file) w = refl
counted (Symbol Symdef sym hash) w = refl
counted (Symbol Hashed64def sym hash) w = refl
counted (Symbol Hasheddef sym hash) w = refl
counted (Symbol Nonpkgdef sym hash) w = refl
counted (Content bytes) w = refl
counted (Relocation r) w = refl
counted (Auxiliary a) w = refl
counted (Reference sym) w = refl
counted (Flags r) w = refl
counted (Named r) w = refl

-- a line that may come is read as what it was spelled of
line_back : (stage : Stage) (line : Line) → MayCome stage line → IsSpelt line → line_at stage (line_text line) ≡ Ok line
unfolding line_at
line_back stage line may spelt =
    let w = word_of_line line in
    let fs = fields_back (spelling w) (fields_of_line line) (word_field w) (line_spelt line spelt) in
    let begun = may.begun in
    let sorted = may.sorted in
    let placed = may.placed in
    let sized = may.sized in
    rw fs (rw (word_back w) (rw begun (rw sorted (rw (counted line (spelling w)) (rw (value_back (spelling w) line spelt) (rw placed (rw sized refl)))))))

-- the bytes of a line, its front and its end
line_trimmed : (line : Line) → IsSpelt line → trimmed_line (line_text line) ≡ line_text line
line_trimmed line spelt =
    let w = word_of_line line in
    trimmed_back (line_text line) (word_prefix w (flat_map after_space (fields_of_line line))).0 (line_printed (spelling w) (fields_of_line line) (word_field w) (line_spelt line spelt)).1

all_printed : (ls : List Line) → All IsSpelt ls → ArePrinted ls
all_printed [] h = tt
all_printed (l ∷ ls) h = (
  (line_printed (spelling (word_of_line l)) (fields_of_line l) (word_field (word_of_line l)) (line_spelt l (All-head IsSpelt l ls h))).0,
  all_printed ls (All-tail IsSpelt l ls h),
)

none_left : is_skipped (trimmed_line []) ≡ true
unfolding trimmed_line
none_left = refl

-- lines that may come one after the other are read as what they were spelled of
all_back : (n : ℕ) (stage : Stage) (ls : List Line) → IsRun stage ls → All IsSpelt ls → read_lines n stage (map line_text ls ++ [] ∷ []) ≡ Ok ls
all_back n stage [] run h = passed_over n stage [] [] none_left ∙ all_read (next_number n) stage run
all_back n stage (l ∷ ls) run h =
    let spelt = All-head IsSpelt l ls h in
    let same = line_trimmed l spelt in
    let says : is_skipped (trimmed_line (line_text l)) ≡ false = rw same ((word_prefix (word_of_line l) (flat_map after_space (fields_of_line l))).1) in
    let reads : line_at stage (trimmed_line (line_text l)) ≡ Ok l = rw same (line_back stage l run.0 spelt) in
    good_line n stage (line_text l) (map line_text ls ++ [] ∷ []) l says reads
    ∙ ap (onto_lines l) (all_back (next_number n) (after stage l) ls run.1 (All-tail IsSpelt l ls h))

-- each line of a description can be spelled
no_hash : (hash : List ℕ) → length hash ≡ 0 → hash ≡ []
no_hash hash h = nil_from_length hash h

all_flat : {A : Type 0} (f : A → List Line) (xs : List A) → All (λ x. All IsSpelt (f x)) xs → All IsSpelt (flat_map f xs)
all_flat {A} f [] h = All-nil IsSpelt
all_flat {A} f (x ∷ xs) h = All-append IsSpelt (f x) (flat_map f xs) (All-head (λ y. All IsSpelt (f y)) x xs h) (all_flat f xs (All-tail (λ y. All IsSpelt (f y)) x xs h))

content_spelt : (content : List ℕ) → IsBytes content → All IsSpelt (content_lines content)
content_spelt [] h = All-nil IsSpelt
content_spelt (b ∷ s) h = All-cons IsSpelt (Content (b ∷ s)) [] h (All-nil IsSpelt)

def_spelt : (block : DefBlock) (def : DefDesc) → IsPrintableDef def → IsTypedDef def → HasBytesDef def → IsSpeltHash block def.hash → All IsSpelt (def_lines block def)
unfolding def_lines
def_spelt block def p t b hash =
    let symbol : IsSpeltSymbol def.sym = record { typed = t.sym; name = no_zeros def.sym.name p.name b.name } in
    All-cons IsSpelt (Symbol block def.sym def.hash) (content_lines def.content ++ (map Relocation def.relocs ++ map Auxiliary def.auxes)) (symbol, hash)
    (All-append IsSpelt (content_lines def.content) (map Relocation def.relocs ++ map Auxiliary def.auxes) (content_spelt def.content b.content)
    (All-append IsSpelt (map Relocation def.relocs) (map Auxiliary def.auxes)
    (All-map IsSpelt Relocation def.relocs (λ k x inside. (t.relocs k x inside, p.relocs k x inside)))
    (All-map IsSpelt Auxiliary def.auxes (λ k x inside. (t.auxes k x inside, p.auxes k x inside)))))

defs_spelt : (block : DefBlock) (defs : List DefDesc) → All IsPrintableDef defs → All IsTypedDef defs → All HasBytesDef defs → All (λ (def : DefDesc). IsSpeltHash block def.hash) defs → All IsSpelt (flat_map (def_lines block) defs)
defs_spelt block defs p t b hash = all_flat (def_lines block) defs (λ k x inside. def_spelt block _ (p k x inside) (t k x inside) (b k x inside) (hash k x inside))

all_spelt : (d : ObjDesc) → IsPrintable d → IsTyped d → HasBytes d → All IsSpelt (lines_of d)
unfolding lines_of
all_spelt d p t b =
    All-cons IsSpelt (Header d.flags d.fingerprint) _ (t.flags, b.fingerprint, t.fingerprint)
    (All-append IsSpelt (map Import d.autolib) _ (All-map IsSpelt Import d.autolib (λ k x inside. (no_zeros _ (p.autolib k x inside) (b.autolib k x inside).path, (b.autolib k x inside).fingerprint, (t.autolib k x inside).fingerprint)))
    (All-append IsSpelt (map Package d.pkgs) _ (All-map IsSpelt Package d.pkgs (λ k x inside. no_zeros _ (p.pkgs k x inside) (b.pkgs k x inside)))
    (All-append IsSpelt (map Source d.files) _ (All-map IsSpelt Source d.files (λ k x inside. no_zeros _ (p.files k x inside) (b.files k x inside)))
    (All-append IsSpelt (flat_map (def_lines Symdef) d.defs) _ (defs_spelt Symdef d.defs p.defs t.defs b.defs (λ k x inside. no_hash _ (p.def_hashes k x inside)))
    (All-append IsSpelt (flat_map (def_lines Hashed64def) d.hash64) _ (defs_spelt Hashed64def d.hash64 p.hash64 t.hash64 b.hash64 (λ k x inside. ((b.hash64 k x inside).hash, p.short_hashes k x inside)))
    (All-append IsSpelt (flat_map (def_lines Hasheddef) d.hashed) _ (defs_spelt Hasheddef d.hashed p.hashed t.hashed b.hashed (λ k x inside. (b.hashed k x inside).hash))
    (All-append IsSpelt (flat_map (def_lines Nonpkgdef) d.ndefs) _ (defs_spelt Nonpkgdef d.ndefs p.ndefs t.ndefs b.ndefs (λ k x inside. no_hash _ (p.ndef_hashes k x inside)))
    (All-append IsSpelt (map Reference d.refs) _ (All-map IsSpelt Reference d.refs (λ k x inside. record { typed = t.refs k x inside; name = no_zeros _ (p.refs k x inside) (b.refs k x inside) }))
    (All-append IsSpelt (map Flags d.ref_flags) _ (All-map IsSpelt Flags d.ref_flags (λ k x inside. (t.ref_flags k x inside, p.ref_flags k x inside)))
    (All-map IsSpelt Named d.ref_names (λ k x inside. ((t.ref_names k x inside).target, (p.ref_names k x inside).target, no_zeros _ (p.ref_names k x inside).name (b.ref_names k x inside)))))))))))))

-- the canonical text of a description reads as the description
pub text_back : (d : ObjDesc) → IsPrintable d → IsTyped d → HasBytes d → read_text (text_of d) ≡ Ok d
unfolding read_text text_of
text_back d p t b =
    let spelt = all_spelt d p t b in
    ap (λ (ls : List (List ℕ)). answer_of_lines (read_lines 1 at_start ls)) (lines_back (lines_of d) (all_printed (lines_of d) spelt))
    ∙ ap answer_of_lines (all_back 1 at_start (lines_of d) (lines_run d p) spelt)
    ∙ ap (λ (e : ObjDesc). Ok e) (description_back d)
