-- Weaker entries of a trace: the told rows of a question of several parts as rows of one part.
use Rattle.std.specs.Prelude.{◌≡◌, ◌≢◌, ◌⊎◌, List, [], ◌∷◌, All, Contains}
use Rattle.std.specs.List.{AllZip}
use Rattle.ba_comply.specs.declared.trace.TraceEntry.{TraceEntry}
use Rattle.ba_model.specs.declared.query.Atom.{Atom}
use Rattle.ba_model.specs.declared.query.Part.{Part}
use Rattle.ba_model.specs.declared.query.Query.{Query}
use Rattle.ba_parts.specs.Parts.{Chosen, alone}

-- the part is over the same list of tables, and has the same head
pub record IsAlike (one part : Part) : Type 0 where
  pub from : part.from ≡ one.from
  pub head : part.head ≡ one.head

-- the question has this part and others behind it, all over one list of tables and with one head
pub record AreAlike (q : Query) (first : Part) (others : List Part) : Type 0 where
  pub parts : q.parts ≡ first ∷ others
  pub several : others ≢ []
  pub alike : All (IsAlike first) others

-- a question of several such parts has a weaker one
pub record HasWeaker (q : Query) : Type 0 where
  pub first : Part
  pub others : List Part
  pub are : AreAlike q first others

-- the condition is one of the part's
unfoldable pub HasCondition : Atom → Part → Type 0
HasCondition atom part = Contains part.conds atom

-- each of the parts has the condition
abbrev pub IsShared : List Part → Atom → Type 0
IsShared parts atom = All (HasCondition atom) parts

-- the part of those tables and that head, with those conditions of the first part that each other
-- part has too
pub record IsCommon (q : Query) (part : Part) : Type 0 where
  pub first : Part
  pub others : List Part
  pub are : AreAlike q first others
  pub alike : IsAlike first part
  pub conds : Chosen (IsShared others) first.conds part.conds

-- the weaker question is that part alone
pub record IsWeakened (q weaker : Query) : Type 0 where
  pub part : Part
  pub common : IsCommon q part
  pub is_alone : weaker ≡ alone part

-- a question that has no weaker one stays as it is
pub record Remains (q weaker : Query) : Type 0 where
  pub none : ¬ (HasWeaker q)
  pub same : weaker ≡ q

-- the question's weaker one, or itself where it has none
abbrev pub IsWeakerQuery : Query → Query → Type 0
IsWeakerQuery q weaker = IsWeakened q weaker ⊎ Remains q weaker

-- the entry tells the same rows, of the weaker question where its own has one
pub record IsWeaker (entry weaker : TraceEntry) : Type 0 where
  pub query : IsWeakerQuery entry.query weaker.query
  pub rows : weaker.rows ≡ entry.rows

-- so does each entry
abbrev pub AreWeaker : List TraceEntry → List TraceEntry → Type 0
AreWeaker trace weaker = AllZip IsWeaker trace weaker

-- no entry's question has a weaker one
abbrev pub NoneHasWeaker : List TraceEntry → Type 0
NoneHasWeaker trace = All (λ entry. ¬ (HasWeaker entry.query)) trace

-- an entry's question has one, and these are the weaker entries
pub record IsWeakerTrace (trace weaker : List TraceEntry) : Type 0 where
  pub some : ¬ (NoneHasWeaker trace)
  pub each : AreWeaker trace weaker
