-- When single views cover a query, part by part.
use Rattle.std.specs.Prelude.{◌≡◌, ℕ, ◌<◌, ◌⊎◌, ◌==◌, List, [], ◌∷◌, All, Contains, Option, Some, None, IsSome, length, map, slice_get, count_by}
use Rattle.std.specs.Cmp.Lexicographic.{slice_cmp}
use Rattle.std.specs.List.{AllZip}
use Rattle.std.specs.Ordering.{nat_cmp}
use Rattle.std.specs.declared.cmp.Ordering.TheVariants.{Less}
use Rattle.ba_comply.specs.Comply.{Strong}
use Rattle.ba_comply.specs.declared.trace.TraceEntry.{TraceEntry}
use Rattle.ba_model.specs.Fit.{ContextFits, PolicyFits, kinds_of}
use Rattle.ba_model.specs.declared.policy.Context.{Context}
use Rattle.ba_model.specs.declared.policy.Policy.{Policy}
use Rattle.ba_model.specs.declared.policy.View.{View}
use Rattle.ba_model.specs.declared.query.Atom.{Atom}
use Rattle.ba_model.specs.declared.query.Op.TheVariants.{Eq}
use Rattle.ba_model.specs.declared.query.Operand.{Operand}
use Rattle.ba_model.specs.declared.query.Operand.TheVariants.{Col, Val, Param, Var}
use Rattle.ba_model.specs.declared.query.Part.{Part}
use Rattle.ba_model.specs.declared.query.Query.{Query}
use Rattle.ba_model.specs.declared.value.Value.{Value}
use Rattle.ba_direct.specs.declared.covers.Cover.{Cover}
use Rattle.ba_direct.specs.declared.covers.PartCover.{PartCover}

-- A pairing lists, for each table of a view's part, a place in the query's part.

-- the pairing is one-to-one of all tables, by name: the paired place has the same table, and each place of the query is paired once
pub record PairsTables (view q : Part) (to : List ℕ) : Type 0 where
  pub as_many : length to ≡ length q.from
  pub tables : map (slice_get q.from) to ≡ map Some view.from
  pub once : (place : ℕ) → place < length q.from → count_by (λ i. i == place) to ≡ 1

-- the value of a constant, or of a parameter in the context
abbrev pub constant_of : Context → Operand → Option Value
constant_of c (Col place column) = None
constant_of c (Val v) = Some v
constant_of c (Param n) = slice_get c.values n
constant_of c (Var n) = None

-- both operands are constants, of one value
pub record SameConstant (c : Context) (x y : Operand) : Type 0 where
  pub value : Value
  pub left_is : constant_of c x ≡ Some value
  pub right_is : constant_of c y ≡ Some value

-- the pairing maps an operand of the view to one of the query: a column to that of the paired table, a constant to an equal one
abbrev pub Maps : Context → List ℕ → Operand → Operand → Type 0
Maps c to (Col place column) (Col paired other) = (slice_get to place ≡ Some paired) × (other ≡ column)
Maps c to x y = SameConstant c x y

-- the pairing maps an atom of the view to one of the query, an equation either way round
abbrev pub MapsAtom : Context → List ℕ → Atom → Atom → Type 0
MapsAtom c to a b =
    ((a.op ≡ b.op) × Maps c to a.left b.left × Maps c to a.right b.right) ⊎ ((a.op ≡ Eq) × (b.op ≡ Eq) × Maps c to a.left b.right × Maps c to a.right b.left)

-- some atom of the query is the image of the view's
abbrev pub HasImage : Context → List ℕ → Part → Atom → Type 0
HasImage c to q a = (b : Atom) × Contains q.conds b × MapsAtom c to a b

-- the query's atom is the image of some atom of the view
abbrev pub IsImage : Context → List ℕ → Part → Atom → Type 0
IsImage c to view b = (a : Atom) × Contains view.conds a × MapsAtom c to a b

-- the view outputs the query's column: its head has the column at the place that is paired
abbrev pub IsOutput : List ℕ → Part → ℕ → ℕ → Type 0
IsOutput to view paired column = (place : ℕ) × Contains view.head (Col place column) × (slice_get to place ≡ Some paired)

-- an operand of the query is a constant, or a column that the view outputs
abbrev pub IsKnown : Context → List ℕ → Part → Operand → Type 0
IsKnown c to view (Col paired column) = IsOutput to view paired column
IsKnown c to view (Val v) = Unit {0}
IsKnown c to view (Param n) = IsSome (slice_get c.values n)
IsKnown c to view (Var n) = ⊥

-- The view's part covers the query's part by the pairing: each atom of the view maps to one of the query; the query's other atoms and
-- its head use only constants and columns that the view outputs.
pub record CoversBy (c : Context) (view q : Part) (to : List ℕ) : Type 0 where
  pub pairs : PairsTables view q to
  pub atoms : All (HasImage c to q) view.conds
  pub others : All (λ b. IsImage c to view b ⊎ (IsKnown c to view b.left × IsKnown c to view b.right)) q.conds
  pub head : All (IsKnown c to view) q.head

-- the named view has one part, which covers the query's part by the pairing
pub record CoversPart (policy : Policy) (c : Context) (q : Part) (cover : PartCover) : Type 0 where
  pub view : View
  pub part : Part
  pub view_is : slice_get policy.views cover.view ≡ Some view
  pub part_is : view.query.parts ≡ part ∷ []
  pub by : CoversBy c part q cover.places

-- for each part of the query in turn a cover
pub record IsCover (policy : Policy) (c : Context) (q : Query) (cover : Cover) : Type 0 where
  pub parts : AllZip (CoversPart policy c) q.parts cover.parts

-- some view covers the query's part
pub record PartCovered (policy : Policy) (c : Context) (q : Part) : Type 0 where
  pub cover : PartCover
  pub covers : CoversPart policy c q cover

-- each part of the query is covered
pub record Covered (policy : Policy) (c : Context) (q : Query) : Type 0 where
  pub parts : All (PartCovered policy c) q.parts

-- the cover of a part is its first: no earlier view covers it, and no pairing of this view that comes before does
pub record IsFirst (policy : Policy) (c : Context) (q : Part) (cover : PartCover) : Type 0 where
  pub covers : CoversPart policy c q cover
  pub views : (other : PartCover) → other.view < cover.view → CoversPart policy c q other → ⊥
  pub pairings : (other : PartCover) → other.view ≡ cover.view → slice_cmp nat_cmp other.places cover.places ≡ Less → CoversPart policy c q other → ⊥

-- each part's cover is its first
pub record IsFirstCover (policy : Policy) (c : Context) (q : Query) (cover : Cover) : Type 0 where
  pub parts : AllZip (IsFirst policy c) q.parts cover.parts

-- where the policy and the context fit, the query is strongly compliant after any trace
pub record AlwaysStrong (policy : Policy) (c : Context) (q : Query) : Type 0 where
  pub after : PolicyFits policy → ContextFits (kinds_of policy.params) c → (trace : List TraceEntry) → Strong policy c trace q

-- a covered query is strongly compliant, after any trace
abbrev pub CoveredIsStrong : Type 0
CoveredIsStrong =
    (policy : Policy) (c : Context) (trace : List TraceEntry) (q : Query) → PolicyFits policy → ContextFits (kinds_of policy.params) c → Covered policy c q → Strong policy c trace q

-- a query that has a cover is covered
abbrev pub CoverCovers : Type 0
CoverCovers = (policy : Policy) (c : Context) (q : Query) (cover : Cover) → IsCover policy c q cover → Covered policy c q
