-- The world of a link: its packages in load order, with their objects.
use Rattle.std.specs.Prelude.{ℕ, List, [], ◌∷◌, ◌-◌, suc, map, take, drop, length, nat_lt, Option, None, if◌then◌else◌}
use Rattle.std.specs.List.{flat_map, sum_by}
use Rattle.std.specs.Option.{option_or}
use Rattle.glk_obj.specs.Records.{symbols}
use Rattle.glk_package.specs.ObjectEntry.{ObjectEntry}
use Rattle.glk_package.specs.HeaderRule.{first_line, line_or_open}
use Rattle.glk_package.specs.WidthRule.{first_width, width_or_open}
use Rattle.glk_package.specs.ObjectRules.{ObjectRules}
use Rattle.glk_base.specs.Groups.{group_of}

-- a package: its path, the bytes of its file, the header line of its first object, and the data of its objects
pub record Package : Type 0 where
  pub path : List ℕ
  pub file : List ℕ
  pub header : Option (List ℕ)
  pub objects : List (List ℕ)

-- the package with this path, whose file has these objects
abbrev pub package_of_file : List ℕ → List ℕ → List ObjectEntry → Package
package_of_file path file objects = record { path = path; file = file; header = first_line objects; objects = map (λ o. o.goobj) objects }

-- the paths of packages
abbrev pub paths_of : List Package → List (List ℕ)
paths_of world = map (λ p. p.path) world

-- the objects of all packages, in load order
unfoldable pub objects_of : List Package → List (List ℕ)
objects_of world = flat_map (λ p. p.objects) world

-- the header line of their first object
abbrev pub first_header : List Package → Option (List ℕ)
first_header [] = None
first_header (p ∷ later) = option_or p.header (first_header later)

-- what further objects have to have in common with those of these packages: the first line, and the first length of long hashes
abbrev pub rules_so_far : List Package → ObjectRules
rules_so_far world = record { headers = line_or_open (first_header world); widths = width_or_open (first_width (objects_of world)) }

-- the number of the package that holds object n
unfoldable pub package_of_object : List Package → ℕ → ℕ
package_of_object [] n = 0
package_of_object (p ∷ later) n = if nat_lt n (length p.objects) then 0 else suc (package_of_object later (n - length p.objects))

-- the number of the first object of package p: after the objects of the packages before
unfoldable pub first_object : List Package → ℕ → ℕ
first_object world p = length (objects_of (take p world))

-- how many objects package p has
unfoldable pub object_count : List Package → ℕ → ℕ
object_count world p = length (objects_of (take 1 (drop p world)))

-- how many bytes the files have together
abbrev pub file_bytes : List Package → ℕ
file_bytes world = sum_by (λ p. length p.file) world

-- how many symbols the objects have together
abbrev pub symbol_count : List Package → ℕ
symbol_count world = sum_by symbols (objects_of world)

-- how many symbols the objects of a package have
unfoldable pub package_symbols : Package → ℕ
package_symbols p = sum_by symbols p.objects

-- the number of the package that holds row r: one row for each symbol, objects in load order, and in each its local indices
unfoldable pub package_of_row : List Package → ℕ → ℕ
package_of_row world r = group_of package_symbols world r

-- a link has at most this many packages
abbrev pub package_limit : ℕ
package_limit = 65536
