-- Offers of packages, one after the other.
use Rattle.std.proofs.Common.{◌≡◌, ℕ, ◌+◌, ◌<◌, ◌≤◌, List, [], ◌∷◌, ◌++◌, Bool, true, false, Option, Some, None, get_or, length, inl, inr, refl, sym, ap, ◌∙◌, subst, arith, below_more, true≢false}
use Rattle.std.specs.Prelude.{◌||◌, ◌==◌, nat_lt, if◌then◌else◌}
use Rattle.std.proofs.lemmas.Bool.{cases_lt}
use Rattle.std.proofs.lemmas.List.{get_or_append_left, get_or_push, length_push}
use Rattle.glk_arena.specs.Packages.{find_package}
use Rattle.glk_arena.specs.World.{Package, objects_of, paths_of, first_object, object_count}
use Rattle.glk_base.specs.Groups.{group_start}
use Rattle.glk_base.proofs.Groups.{lt_true, lt_false}
use Rattle.glk_obj.specs.Blocks.{count, pkg_idx}
use Rattle.glk_obj.specs.Packages.{nil_package, none_package, hashed64_package, hashed_package, builtin_package, self_package}
use Rattle.glk_obj.specs.Records.{SymbolRef, pkg_at, symbols}
use Rattle.glk_keys.specs.Names.{is_special}
use Rattle.glk_keys.specs.Programs.{Program}
use Rattle.glk_keys.specs.Rows.{object_at, row_count, row_in_object}
use Rattle.glk_keys.specs.Targets.{row, row_among, referent_of, package_referent, package_of_entry}
use Rattle.glk_keys.specs.LocalIndices.{symdef_symbols}
use Rattle.glk_keys.proofs.ReferentLaws.{symbols_within}
use Rattle.glk_keys.specs.RowLaws.{all_rows}
use Rattle.glk_base.specs.declared.ids.SymId.{SymId}
use Rattle.glk_keys.specs.declared.target.Referent.{Referent}
use Rattle.glk_keys.specs.declared.target.Referent.TheVariants as means
use Rattle.glk_merge.specs.Offers.{offered, IsOffer, no_offer, AppendsOffers, AreOffersTo, AreOffersUpTo}
use Rattle.glk_merge.specs.declared.offers.Offer.{Offer}

module _ (p : Program) where
  pub appends_none : (n : ℕ) (old : List Offer) → AppendsOffers p n 0 old old
  appends_none n old = record {
    long = omega arith;
    kept = λ i h. refl;
    added = λ k h. absurd (omega arith);
  }

  -- one offer more
  pub appends_more : (n m : ℕ) (old now new : List Offer) (offer : Offer) → AppendsOffers p n m old now → new ≡ now ++ offer ∷ [] → IsOffer p (package_of_entry p n m) offer → AppendsOffers p n (m + 1) old new
  appends_more n m old now new offer a push is =
      let long = a.long in
      let longer : length new ≡ length now + 1 = ap length push ∙ length_push now offer in record {
        long = omega arith;
        kept = λ i h. ap (λ l. get_or l i no_offer) push ∙ get_or_append_left now (offer ∷ []) no_offer i (omega arith) ∙ a.kept i h;
        added = below_more (λ k. IsOffer p (package_of_entry p n k) (get_or new (length old + k) no_offer)) m
            (λ k h.
            let same : get_or new (length old + k) no_offer ≡ get_or now (length old + k) no_offer = ap (λ l. get_or l (length old + k) no_offer) push ∙ get_or_append_left now (offer ∷ []) no_offer (length old + k) (omega arith) in
            let P : Offer → Type 0 = λ x. IsOffer p (package_of_entry p n k) x in
            subst P (sym same) (a.added k h))
            (let same : get_or new (length old + m) no_offer ≡ offer = ap (λ l. get_or l (length old + m) no_offer) push ∙ get_or_push now offer no_offer (length old + m) long in
            let P : Offer → Type 0 = λ x. IsOffer p (package_of_entry p n m) x in
            subst P (sym same) is);
      }

  -- the offers to an object stay where lists grow
  kept_offers : (starts later : List ℕ) (offers more : List Offer) (n m : ℕ) → m < n → length starts ≡ n + 1 → ((i : ℕ) → i ≤ n → get_or later i 0 ≡ get_or starts i 0)
      → length offers ≤ length more → ((i : ℕ) → i < length offers → get_or more i no_offer ≡ get_or offers i no_offer) → AreOffersTo p starts offers m → AreOffersTo p later more m
  kept_offers starts later offers more n m less long same grown kept a =
      let here = same m (omega arith) in
      let next = same (m + 1) (omega arith) in
      let ends = a.ends in
      let inside = a.inside in record {
        ends = omega arith;
        inside = omega arith;
        each = λ k h.
            let at : get_or later m 0 + k ≡ get_or starts m 0 + k = omega arith in
            let is : get_or more (get_or later m 0 + k) no_offer ≡ get_or offers (get_or starts m 0 + k) no_offer = ap (λ i. get_or more i no_offer) at ∙ kept (get_or starts m 0 + k) (omega arith) in
            let P : Offer → Type 0 = λ x. IsOffer p (package_of_entry p m k) x in
            subst P (sym is) (a.each k h);
      }

  -- the offers to one object more
  pub offers_more : (starts later : List ℕ) (offers more : List Offer) (n len : ℕ) → AreOffersUpTo p starts offers n → AppendsOffers p n (count (object_at p n) pkg_idx) offers more
      → len ≡ length more → later ≡ starts ++ len ∷ [] → AreOffersUpTo p later more (n + 1)
  offers_more starts later offers more n len a new len_is push =
      let begun = a.begun in
      let long = new.long in
      let same : (i : ℕ) → i ≤ n → get_or later i 0 ≡ get_or starts i 0 = λ i h. ap (λ l. get_or l i 0) push ∙ get_or_append_left starts (len ∷ []) 0 i (omega arith) in
      let end : get_or later (n + 1) 0 ≡ len = ap (λ l. get_or l (n + 1) 0) push ∙ get_or_push starts len 0 (n + 1) begun in
      let here = same n (omega arith) in
      let last = a.last in record {
        begun = ap length push ∙ length_push starts len ∙ ap (λ k. k + 1) begun;
        last = end ∙ len_is;
        each = below_more (λ m. AreOffersTo p later more m) n
            (λ m h. kept_offers starts later offers more n m h begun same (omega arith) new.kept (a.each m h))
            (record {
              ends = omega arith;
              inside = omega arith;
              each = λ k h.
                  let at : get_or later n 0 + k ≡ length offers + k = omega arith in
                  let is : get_or more (get_or later n 0 + k) no_offer ≡ get_or more (length offers + k) no_offer = ap (λ i. get_or more i no_offer) at in
                  let P : Offer → Type 0 = λ x. IsOffer p (package_of_entry p n k) x in
                  subst P (sym is) (new.added k h);
            });
      }

  -- a number of an entry means the package of the entry
  both_false : (a b : Bool) → (a || b) ≡ false → (a ≡ false) × (b ≡ false)
  both_false true b e = cc
  both_false false b e = (refl, e)

  pub entry_referent : (n : ℕ) (ref : SymbolRef) → is_special ref.pkg ≡ false → referent_of p n ref ≡ package_referent p (package_of_entry p n ref.pkg) ref.sym
  unfolding referent_of
  entry_referent n ref e =
      let pkg = ref.pkg in
      let a = both_false ((((((pkg == nil_package) || (pkg == none_package)) || (pkg == hashed64_package)) || (pkg == hashed_package)) || (pkg == builtin_package))) (pkg == self_package) e in
      let b = both_false (((((pkg == nil_package) || (pkg == none_package)) || (pkg == hashed64_package)) || (pkg == hashed_package))) (pkg == builtin_package) a.0 in
      let c = both_false ((((pkg == nil_package) || (pkg == none_package)) || (pkg == hashed64_package))) (pkg == hashed_package) b.0 in
      let d = both_false (((pkg == nil_package) || (pkg == none_package))) (pkg == hashed64_package) c.0 in
      let f = both_false (pkg == nil_package) (pkg == none_package) d.0 in
      rw (f.0, f.1, d.1, c.1, a.1, b.1) refl

  -- past the entries no package is meant
  pub past_entries : (n pkg index : ℕ) → count (object_at p n) pkg_idx ≤ pkg → package_referent p (package_of_entry p n pkg) index ≡ means.Missing
  unfolding package_of_entry
  past_entries n pkg index h = rw (lt_false pkg (count (object_at p n) pkg_idx) h) refl

  -- the package of an entry, by its path
  pub found_by_entry : (n k : ℕ) (world : List Package) (path : List ℕ) (found : Option ℕ) → world ≡ p.world → k < count (object_at p n) pkg_idx → path ≡ pkg_at (object_at p n) k
      → found ≡ find_package (paths_of world) path → found ≡ package_of_entry p n k
  unfolding package_of_entry
  found_by_entry n k world path found same h is e =
      let moved : find_package (paths_of world) path ≡ find_package (paths_of p.world) (pkg_at (object_at p n) k) = (λ z. find_package (paths_of (same z)) (is z)) in
      rw (lt_true k (count (object_at p n) pkg_idx) h) (e ∙ moved)

-- what the symbols of an object offer

row_number : Referent → ℕ
row_number means.Nothing = 0
row_number (means.Row r) = r.0
row_number means.Missing = 0

row_by_test : (b : Bool) (x : ℕ) (id : SymId) → (if b then row x else means.Missing) ≡ means.Row id → (b ≡ true) × (x ≡ id.0)
unfolding row_number
row_by_test true x id e = (refl, ap row_number e)
row_by_test false x id e = absurd (let h : ⊥ = cc in h)

none_by_test : (b : Bool) (x : ℕ) → (if b then row x else means.Missing) ≡ means.Missing → b ≡ false
none_by_test true x e = cc
none_by_test false x e = refl

not_nothing : (b : Bool) (x : ℕ) → (if b then row x else means.Missing) ≡ means.Nothing → ⊥
not_nothing true x e = cc
not_nothing false x e = cc

none_below : (n : ℕ) → nat_lt 0 n ≡ false → n ≡ 0
none_below n e = elim (cases_lt 0 n) [
  | inl m ↦ absurd (true≢false (sym (lt_true 0 n m) ∙ e))
  | inr g ↦ omega arith
]

some_below : (n : ℕ) → nat_lt 0 n ≡ true → 0 < n
some_below n e = elim (cases_lt 0 n) [
  | inl m ↦ m
  | inr g ↦ absurd (true≢false (sym e ∙ lt_false 0 n g))
]

module _ (p : Program) (o : ℕ) where
  -- the first symbol of the object's own Symdef
  abbrev pub first_symbol : SymbolRef
  first_symbol = record { pkg = self_package; sym = 0 }

  abbrev size : ℕ
  size = (symdef_symbols (object_at p o)).size

  own_referent : referent_of p o first_symbol ≡ (if nat_lt 0 size then row (row_in_object p o (0 + 0)) else means.Missing)
  unfolding referent_of row_among
  own_referent = refl

  pub first_row : (id : SymId) → means.Row id ≡ referent_of p o first_symbol → (nat_lt 0 size ≡ true) × (row_in_object p o (0 + 0) ≡ id.0)
  first_row id e = row_by_test (nat_lt 0 size) (row_in_object p o (0 + 0)) id (sym own_referent ∙ sym e)

  -- all of them are offered, from the row of the first on
  pub offers_all : (id : SymId) (many index : ℕ) → many ≡ size → means.Row id ≡ referent_of p o first_symbol
      → row_among p o (symdef_symbols (object_at p o)) index ≡ offered (record { first = id.0; count = many }) index
  unfolding row_among row_in_object
  offers_all id many index counted e =
      let first = (first_row id e).1 in
      let at : group_start symbols (objects_of p.world) o + (0 + index) ≡ id.0 + index = omega (arith, first) in
      (λ z. if nat_lt index ((sym counted) z) then row (at z) else means.Missing)

  pub offers_within : (id : SymId) (many : ℕ) → o < length (objects_of p.world) → many ≡ size → means.Row id ≡ referent_of p o first_symbol → id.0 + many ≤ row_count p
  unfolding row_in_object
  offers_within id many h counted e =
      let first = (first_row id e).1 in
      let within = symbols_within (objects_of p.world) o h in
      let all = all_rows p in
      omega (arith, first)

  -- none of them where the first is missing
  none_offered : (index : ℕ) → size ≡ 0 → row_among p o (symdef_symbols (object_at p o)) index ≡ offered no_offer index
  unfolding row_among
  none_offered index none = rw (lt_false index size (omega arith), lt_false index 0 (omega arith)) refl

  pub offers_none : (index : ℕ) → means.Missing ≡ referent_of p o first_symbol → row_among p o (symdef_symbols (object_at p o)) index ≡ offered no_offer index
  offers_none index e = none_offered index (none_below size (none_by_test (nat_lt 0 size) (row_in_object p o (0 + 0)) (sym own_referent ∙ sym e)))

  pub is_not_nothing : means.Nothing ≡ referent_of p o first_symbol → ⊥
  is_not_nothing e = not_nothing (nat_lt 0 size) (row_in_object p o (0 + 0)) (sym own_referent ∙ sym e)

-- What a package offers.

missing_offered : (index : ℕ) → means.Missing ≡ offered no_offer index
missing_offered index = rw (lt_false index 0 (omega arith)) refl

pub no_package : (p : Program) → IsOffer p None no_offer
no_package p = record { rows = missing_offered; within = omega arith }

pub no_objects : (p : Program) (q : ℕ) → object_count p.world q ≡ 0 → IsOffer p (Some q) no_offer
no_objects p q none = record {
  rows = λ index. rw (lt_false 0 (object_count p.world q) (omega arith)) (missing_offered index);
  within = omega arith;
}

pub some_objects : (p : Program) (q o : ℕ) (offer : Offer) → 0 < object_count p.world q → o ≡ first_object p.world q
    → ((index : ℕ) → row_among p o (symdef_symbols (object_at p o)) index ≡ offered offer index) → offer.first + offer.count ≤ row_count p → IsOffer p (Some q) offer
some_objects p q o offer some is rows within =
    let P : ℕ → Type 0 = λ n. (index : ℕ) → row_among p n (symdef_symbols (object_at p n)) index ≡ offered offer index in record {
      rows = λ index. rw (lt_true 0 (object_count p.world q) some) (subst P is rows index);
      within = within;
    }

-- What a reference through an entry means.

module _ (p : Program) (starts : List ℕ) (offers : List Offer) (n : ℕ) (ref : SymbolRef) (a : AreOffersTo p starts offers n) (plain : is_special ref.pkg ≡ false) where
  pub referent_offered : (s : ℕ) (offer : Offer) → s ≡ get_or starts n 0 → ref.pkg < count (object_at p n) pkg_idx → offer ≡ get_or offers (s + ref.pkg) no_offer → offered offer ref.sym ≡ referent_of p n ref
  referent_offered s offer start h is =
      let same : get_or offers (get_or starts n 0 + ref.pkg) no_offer ≡ offer = ap (λ i. get_or offers (i + ref.pkg) no_offer) (sym start) ∙ sym is in
      let P : Offer → Type 0 = λ x. IsOffer p (package_of_entry p n ref.pkg) x in
      let of_package : IsOffer p (package_of_entry p n ref.pkg) offer = subst P same (a.each ref.pkg h) in
      sym (of_package.rows ref.sym) ∙ sym (entry_referent p n ref plain)

  pub referent_past : count (object_at p n) pkg_idx ≤ ref.pkg → means.Missing ≡ referent_of p n ref
  referent_past h = sym (past_entries p n ref.pkg ref.sym h) ∙ sym (entry_referent p n ref plain)
