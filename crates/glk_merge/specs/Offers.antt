-- What packages offer to the objects whose lists name them: rows of Symdef, one after the other.
use Rattle.std.specs.Prelude.{◌≡◌, ℕ, ◌+◌, ◌<◌, ◌≤◌, nat_lt, List, length, get_or, Option, if◌then◌else◌}
use Rattle.glk_arena.specs.World.{objects_of}
use Rattle.glk_obj.specs.Blocks.{count, pkg_idx}
use Rattle.glk_keys.specs.Programs.{Program}
use Rattle.glk_keys.specs.Rows.{row_count, object_at}
use Rattle.glk_keys.specs.Targets.{row, package_referent, package_of_entry}
use Rattle.glk_keys.specs.declared.target.Referent.{Referent}
use Rattle.glk_keys.specs.declared.target.Referent.TheVariants as means
use Rattle.glk_merge.specs.declared.offers.Offer.{Offer}

-- the row of an index among those that are offered; missing past them
abbrev pub offered : Offer → ℕ → Referent
offered offer index = if nat_lt index offer.count then row (offer.first + index) else means.Missing

-- this is offered by a package, given by its number; by none nothing is
pub record IsOffer (p : Program) (number : Option ℕ) (offer : Offer) : Type 0 where
  pub rows : (index : ℕ) → package_referent p number index ≡ offered offer index
  pub within : offer.first + offer.count ≤ row_count p

-- what follows the last offer
abbrev pub no_offer : Offer
no_offer = record { first = 0; count = 0 }

-- to a list of offers those to the first m entries of object n are added
pub record AppendsOffers (p : Program) (n m : ℕ) (old new : List Offer) : Type 0 where
  pub long : length new ≡ length old + m
  pub kept : (i : ℕ) → i < length old → get_or new i no_offer ≡ get_or old i no_offer
  pub added : (k : ℕ) → k < m → IsOffer p (package_of_entry p n k) (get_or new (length old + k) no_offer)

-- the offers to object n stand between two starts, one for each entry of its list of packages
pub record AreOffersTo (p : Program) (starts : List ℕ) (offers : List Offer) (n : ℕ) : Type 0 where
  pub ends : get_or starts (n + 1) 0 ≡ get_or starts n 0 + count (object_at p n) pkg_idx
  pub inside : get_or starts (n + 1) 0 ≤ length offers
  pub each : (k : ℕ) → k < count (object_at p n) pkg_idx
      → IsOffer p (package_of_entry p n k) (get_or offers (get_or starts n 0 + k) no_offer)

-- the offers to the first n objects
pub record AreOffersUpTo (p : Program) (starts : List ℕ) (offers : List Offer) (n : ℕ) : Type 0 where
  pub begun : length starts ≡ n + 1
  pub last : get_or starts n 0 ≡ length offers
  pub each : (m : ℕ) → m < n → AreOffersTo p starts offers m

-- the offers to all objects
abbrev pub AreOffers : Program → List ℕ → List Offer → Type 0
AreOffers p starts offers = AreOffersUpTo p starts offers (length (objects_of p.world))
