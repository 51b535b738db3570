-- The first match of a template with a question after a trace.
use Rattle.std.specs.Prelude.{◌≡◌, ℕ, ◌<◌, ◌⊎◌, List, [], ◌∷◌, Option, Some, None}
use Rattle.ba_model.specs.declared.policy.Context.{Context}
use Rattle.ba_model.specs.declared.policy.Policy.{Policy}
use Rattle.ba_model.specs.declared.query.Query.{Query}
use Rattle.ba_comply.specs.declared.trace.TraceEntry.{TraceEntry}
use Rattle.ba_kernel.specs.declared.problem.Problem.{Problem}
use Rattle.ba_template.specs.Found.{IsMatch, Matches}
use Rattle.ba_template.specs.Templates.{EachVarStands}
use Rattle.ba_template.specs.declared.found.Match.{Match}

-- an entry before it, or an earlier row of the same entry
abbrev pub IsBefore : ℕ × ℕ → ℕ × ℕ → Type 0
IsBefore a b = (a.0 < b.0) ⊎ ((a.0 ≡ b.0) × (a.1 < b.1))

-- place by place: where the lists first differ, the first one's place is before
abbrev pub IsUpTo : List (ℕ × ℕ) → List (ℕ × ℕ) → Type 0
IsUpTo [] others = Unit {0}
IsUpTo (a ∷ places) [] = ⊥
IsUpTo (a ∷ places) (b ∷ others) = IsBefore a b ⊎ ((a ≡ b) × IsUpTo places others)

-- a match whose places come first
pub record IsFirstMatch (p : Problem) (policy : Policy) (c : Context) (trace : List TraceEntry) (q : Query) (m : Match) : Type 0 where
  pub is_match : IsMatch p policy c trace q m
  pub first : (other : Match) → IsMatch p policy c trace q other → IsUpTo m.places other.places

-- there is at most one
abbrev pub FirstMatchIsOne : Type 0
FirstMatchIsOne = (p : Problem) (policy : Policy) (c : Context) (trace : List TraceEntry) (q : Query) (m other : Match) →
    EachVarStands p → IsFirstMatch p policy c trace q m → IsFirstMatch p policy c trace q other → m ≡ other

-- the first match, or that there is none
abbrev pub IsFound : Problem → Policy → Context → List TraceEntry → Query → Option Match → Type 0
IsFound p policy c trace q None = ¬ (Matches p policy c trace q)
IsFound p policy c trace q (Some m) = IsFirstMatch p policy c trace q m
