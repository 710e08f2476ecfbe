-- The packages of a world of n functions: which functions a package has, and how packages, files and functions are named.
use Rattle.std.specs.Prelude.{ℕ, ◌+◌, ◌-◌, ◌*◌, ◌/◌, ◌%◌, List, ◌++◌, min, codes, decimal}
use Rattle.std.specs.List.{range_with_len}

-- how many functions a package has, where the functions do not end before
abbrev pub package_size : ℕ
package_size = 64

-- how many packages there are: the least number that has room for n functions
abbrev pub package_count : ℕ → ℕ
package_count n = (n + (package_size - 1)) / package_size

-- the packages, by their numbers
abbrev pub packages : ℕ → List ℕ
packages n = range_with_len 0 (package_count n)

-- function i is this one of its package
abbrev pub package_of : ℕ → ℕ
package_of i = i / package_size

abbrev pub index_in_package : ℕ → ℕ
index_in_package i = i % package_size

-- the functions of package k, by their numbers
abbrev pub first_function : ℕ → ℕ
first_function k = package_size * k

abbrev pub function_count : ℕ → ℕ → ℕ
function_count n k = min package_size (n - first_function k)

abbrev pub functions : ℕ → ℕ → List ℕ
functions n k = range_with_len (first_function k) (function_count n k)

-- Names.

abbrev pub package_path : ℕ → List ℕ
package_path k = codes "p" ++ decimal k

-- the file of a package
abbrev pub package_file : ℕ → List ℕ
package_file k = package_path k ++ codes ".a"

abbrev pub main_file : List ℕ
main_file = codes "main.a"

-- function i of package k
abbrev pub function_name : ℕ → ℕ → List ℕ
function_name k i = package_path k ++ codes ".f" ++ decimal i
