-- The image is the only one.
use Rattle.std.proofs.Common.{◌≡◌, ◌<◌, ◌≤◌, ℕ, List, [], All, length, inl, inr, Some, sym, ap, ◌∙◌, subst, arith}
use Rattle.std.proofs.lemmas.Bool.{cases_lt, cases_eq}
use Rattle.std.proofs.lemmas.List.{nil_from_length}
use Rattle.glk_elf.specs.Image.{Parts, section, elf_bytes}
use Rattle.glk_elf.specs.Placing.{IsPlaced, text_start}
use Rattle.glk_elf.specs.Sections.{text, written_data, tbss}
use Rattle.glk_elf.proofs.ImageOnce.{image_once}
use Rattle.glk_link.specs.Plain.{IsPlain, IsNamesake}
use Rattle.glk_link.specs.Reach.{IsReached, AreKept}
use Rattle.glk_link.specs.Built.{IsBuilt}
use Rattle.glk_link.specs.Layout.{AreAt, address_of}
use Rattle.glk_link.specs.Contents.{IsTextFrom}
use Rattle.glk_link.specs.Image.{IsStart, HasTextAlone, IsImageOf}
use Rattle.glk_link.proofs.Derivations.{IsReached-callee}
use Rattle.glk_link.proofs.Each.{each}
use Rattle.glk_link.proofs.Once.{rising_once, at_once}
use Rattle.glk_link.proofs.ContentOnce.{AreWhole, text_once, address_some}
use Rattle.glk_arena.specs.World.{Package}

-- the kept definitions
pub kept_once : (world : List Package) (entry xs ys : List ℕ) → AreKept world entry xs → AreKept world entry ys → xs ≡ ys
kept_once world entry xs ys x y =
    rising_once xs ys x.rising y.rising
    (λ i c. y.whole i (each (IsReached world entry) xs x.sound i c))
    (λ i c. x.whole i (each (IsReached world entry) ys y.sound i c))

-- the row at which the image starts
pub start_once : (world : List Package) (entry : List ℕ) (i j : ℕ) → IsPlain world → IsStart world entry i → IsStart world entry j → i ≡ j
start_once world entry i j plain x y =
    elim (cases_lt i j) [
      | inl l ↦ absurd (plain.once i j l x.is_entry.definition y.is_entry.definition (namesake i j x y))
      | inr g ↦ elim (cases_lt j i) [
        | inl l ↦ absurd (plain.once j i l y.is_entry.definition x.is_entry.definition (namesake j i y x))
        | inr h ↦ omega arith
      ]
    ]
  where
    namesake : (a b : ℕ) → IsStart world entry a → IsStart world entry b → IsNamesake world a b
    namesake a b s t = record {
      name = s.is_entry.named ∙ sym t.is_entry.named;
      abi = let below = s.first b t.is_entry in let above = t.first a s.is_entry in omega arith;
    }

-- what the kept definitions call has an address
kept_whole : (world : List Package) (entry kept addrs : List ℕ) → AreKept world entry kept → AreAt world text_start kept addrs
    → All (IsBuilt world) kept → AreWhole world (address_of kept addrs) kept
kept_whole world entry kept addrs k at built = record {
  built = each (IsBuilt world) kept built;
  targets = λ i c j t calls.
      address_some world text_start kept addrs t at
      (k.whole t (IsReached-callee i j t (each (IsReached world entry) kept k.sound i c) calls));
}

-- a section with no size has no bytes
no_bytes : (p : Parts) (bytes : List ℕ) → IsPlaced p → HasTextAlone p bytes → (n : ℕ) → text < n → n ≤ written_data → (section p n).bytes ≡ []
no_bytes p bytes placed alone n low high =
    nil_from_length (section p n).bytes (placed.backed n (omega (arith, low)) high ∙ alone.empty n low (omega (arith, high)))

-- the image of parts with the same text and entry
pub parts_once : (p q : Parts) (xs ys : List ℕ) → IsPlaced p → IsPlaced q → HasTextAlone p xs → HasTextAlone q ys → xs ≡ ys → p.entry ≡ q.entry → elf_bytes p ≡ elf_bytes q
parts_once p q xs ys x y a b same entry =
    image_once p q x y entry (a.no_rows ∙ sym b.no_rows) sizes bytes
  where
    code : (section p text).bytes ≡ (section q text).bytes
    code = a.code ∙ same ∙ sym b.code

    code_size : (section p text).size ≡ (section q text).size
    code_size = sym (x.backed text (omega arith) (omega arith)) ∙ ap length code ∙ y.backed text (omega arith) (omega arith)

    sizes : (n : ℕ) → text ≤ n → n ≤ tbss → (section p n).size ≡ (section q n).size
    sizes n low high = elim (cases_eq n text) [
      | inl e ↦ let P : ℕ → Type 0 = λ k. (section p k).size ≡ (section q k).size in subst P (sym e) code_size
      | inr ne ↦ a.empty n (omega (arith, low, ne)) high ∙ sym (b.empty n (omega (arith, low, ne)) high)
    ]

    bytes : (n : ℕ) → text ≤ n → n ≤ written_data → (section p n).bytes ≡ (section q n).bytes
    bytes n low high = elim (cases_eq n text) [
      | inl e ↦ let P : ℕ → Type 0 = λ k. (section p k).bytes ≡ (section q k).bytes in subst P (sym e) code
      | inr ne ↦ no_bytes p xs x a n (omega (arith, low, ne)) high ∙ sym (no_bytes q ys y b n (omega (arith, low, ne)) high)
    ]

-- the image of what is kept
pub image_of_once : (world : List Package) (entry kept : List ℕ) (start : ℕ) (a b : List ℕ) → AreKept world entry kept → All (IsBuilt world) kept
    → IsImageOf world kept start a → IsImageOf world kept start b → a ≡ b
image_of_once world entry kept start a b are built x y =
    let addrs : y.addrs ≡ x.addrs = at_once world text_start kept y.addrs x.addrs y.are_at x.are_at in
    let text_y : IsTextFrom world (address_of kept x.addrs) text_start kept x.addrs y.bytes = rw addrs at y.is_text in
    let bytes : x.bytes ≡ y.bytes = text_once world (address_of kept x.addrs) text_start kept x.addrs x.bytes y.bytes
    (kept_whole world entry kept x.addrs are x.are_at built) x.is_text text_y in
    let starts_y : address_of kept x.addrs start ≡ Some y.parts.entry = rw addrs at y.starts in
    let entry_is : x.parts.entry ≡ y.parts.entry = some_once _ _ (sym x.starts ∙ starts_y) in
    let image : elf_bytes x.parts ≡ elf_bytes y.parts = parts_once x.parts y.parts x.bytes y.bytes x.placed y.placed x.sections y.sections bytes entry_is in
    x.joined ∙ image ∙ sym y.joined
  where
    some_once : (m n : ℕ) → Some m ≡ Some n → m ≡ n
    some_once m n e = cc
