-- Where the file of a table lies.
use Rattle.std.specs.Prelude.{ℕ, List, ◌++◌, codes}

-- the file of a table in a set
unfoldable pub path_of : List ℕ → List ℕ → List ℕ
path_of set table = set ++ codes "/" ++ table ++ codes ".csv"
