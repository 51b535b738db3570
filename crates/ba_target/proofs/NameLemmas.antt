-- Names that are one for a database, in a list that begins with one more.
use Rattle.std.proofs.Common.{◌≡◌, ℕ, List, ◌∷◌, Contains, MatchOption, Option, Some, None, sym, subst}
use Rattle.ba_target.specs.Names.{AreAlike, AreApart, IsApart, compared}
use Rattle.ba_target.specs.Names.AreAlike.{first, later}
use Rattle.ba_target.specs.declared.target.Database.{Database}

pub alike_first : (database : Database) (one other : List ℕ) (names rest : List (List ℕ)) → names ≡ one ∷ rest → Contains rest other
    → compared database one ≡ compared database other → AreAlike database one other names
alike_first database one other names rest e there same = subst (AreAlike database one other) (sym e) (first there same)

pub alike_later : (database : Database) (name one other : List ℕ) (names rest : List (List ℕ)) → names ≡ name ∷ rest
    → AreAlike database one other rest → AreAlike database one other names
alike_later database name one other names rest e h = subst (AreAlike database one other) (sym e) (later h)

pub apart_more : (database : Database) (name : List ℕ) (names rest : List (List ℕ)) → names ≡ name ∷ rest → IsApart database name rest
    → AreApart database rest → AreApart database names
apart_more database name names rest e h more = subst (AreApart database) (sym e) (h, more)

pub match_map : {X : Type 0} (A B : Type 0) (P Q : X → Type 0) (o : Option X) → (A → B) → ((x : X) → P x → Q x) → MatchOption o A P → MatchOption o B Q
match_map A B P Q None f g h = f h
match_map A B P Q (Some x) f g h = g x h
