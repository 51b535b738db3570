-- The grammar of queries: which terminals spell each written form.
use Rattle.std.specs.Prelude.{◌≡◌, ◌⊎◌, ℕ, true, false, List, [], ◌∷◌, ◌++◌, Option, Some, None, if◌then◌else◌}
use Rattle.ba_lex.specs.declared.token.Lexeme.{Lexeme}
use Rattle.ba_lex.specs.declared.token.Sign.{Sign}
use Rattle.ba_lex.specs.declared.token.Sign.TheVariants.{LeftParen, RightParen, Comma, Dot, Semicolon, Star, Equal, NotEqual, BangEqual, Less, LessEqual, Greater, GreaterEqual, Plus, Minus, Slash, Percent}
use Rattle.ba_model.specs.declared.query.Op.{Op}
use Rattle.ba_model.specs.declared.query.Op.TheVariants.{Eq, Ne, Lt, Le, IsNull, NotNull}
use Rattle.ba_sql_syntax.specs.Terminals.{Terminal, key, name, constant, sign, terminals}
use Rattle.ba_sql_syntax.specs.declared.compare.Comparison.{Comparison}
use Rattle.ba_sql_syntax.specs.declared.word.Key.TheVariants.{Select, Distinct, From, Where, Join, Inner, Cross, On, As, And, Or, Union, In, Is, Not, Null as NullKey}
use Rattle.ba_sql_syntax.specs.declared.written.Constant.{Constant}
use Rattle.ba_sql_syntax.specs.declared.written.Heads.{Heads}
use Rattle.ba_sql_syntax.specs.declared.written.Heads.TheVariants.{All, Items}
use Rattle.ba_sql_syntax.specs.declared.written.Item.{Item}
use Rattle.ba_sql_syntax.specs.declared.written.Item.TheVariants.{AllOf, One}
use Rattle.ba_sql_syntax.specs.declared.written.Node.{Node}
use Rattle.ba_sql_syntax.specs.declared.written.Node.TheVariants.{Test as TestNode, And as AndNode, Or as OrNode}
use Rattle.ba_sql_syntax.specs.declared.written.QueryText.{QueryText}
use Rattle.ba_sql_syntax.specs.declared.written.Select.{Select as SelectText}
use Rattle.ba_sql_syntax.specs.declared.written.Side.{Side}
use Rattle.ba_sql_syntax.specs.declared.written.Side.TheVariants.{Column, Constant as ConstantSide}
use Rattle.ba_sql_syntax.specs.declared.written.Source.{Source}
use Rattle.ba_sql_syntax.specs.declared.written.Test.{Test}
use Rattle.ba_sql_syntax.specs.declared.written.Test.TheVariants.{Compare, Among, Null}

-- list = element | list "," element
pub data IsListed {X : Type 0} (Is : X → List Terminal → Type 0) : List X → List Terminal → Type 0 where
  one : {x : X} {us : List Terminal} → Is x us → IsListed Is (x ∷ []) us
  more : {xs : List X} {x : X} {us vs : List Terminal} → IsListed Is xs us → Is x vs → IsListed Is (xs ++ x ∷ []) (us ++ sign Comma ∷ vs)

-- alias = [ [AS] name ]
pub data IsAlias : Option (List ℕ) → List Terminal → Type 0 where
  none : IsAlias None []
  plain : {n : List ℕ} → IsAlias (Some n) (name n ∷ [])
  behind_as : {n : List ℕ} → IsAlias (Some n) (key As ∷ name n ∷ [])

-- side = [ name "." ] name | constant
pub data IsSide : Side → List Terminal → Type 0 where
  qualified : {n m : List ℕ} → IsSide (Column (record { qualifier = Some n; column = m })) (name n ∷ sign Dot ∷ name m ∷ [])
  plain : {n : List ℕ} → IsSide (Column (record { qualifier = None; column = n })) (name n ∷ [])
  literal : {c : Constant} → IsSide (ConstantSide c) (constant c ∷ [])

pub data IsConstant : Constant → List Terminal → Type 0 where
  literal : {c : Constant} → IsConstant c (constant c ∷ [])

abbrev straight : Op → Option Comparison
straight op = Some (record { op = op; turned = false })

abbrev turned : Op → Option Comparison
turned op = Some (record { op = op; turned = true })

-- what a sign compares by, and whether its sides are turned round
abbrev pub comparison : Sign → Option Comparison
comparison Equal = straight Eq
comparison NotEqual = straight Ne
comparison BangEqual = straight Ne
comparison Less = straight Lt
comparison LessEqual = straight Le
comparison Greater = turned Lt
comparison GreaterEqual = turned Le
comparison LeftParen = None
comparison RightParen = None
comparison Comma = None
comparison Dot = None
comparison Semicolon = None
comparison Star = None
comparison Plus = None
comparison Minus = None
comparison Slash = None
comparison Percent = None

abbrev pub compared : Comparison → Side → Side → Test
compared c left right = if c.turned then Compare c.op right left else Compare c.op left right

-- test = side comparison side | side IN "(" constant { "," constant } ")" | side IS NULL | side IS NOT NULL
pub data IsTest : Test → List Terminal → Type 0 where
  compare : {a b : Side} {us vs : List Terminal} (s : Sign) (c : Comparison) → IsSide a us → comparison s ≡ Some c → IsSide b vs
      → IsTest (compared c a b) (us ++ sign s ∷ vs)
  among : {a : Side} {cs : List Constant} {us vs : List Terminal} → IsSide a us → IsListed IsConstant cs vs
      → IsTest (Among a cs) (us ++ key In ∷ sign LeftParen ∷ (vs ++ sign RightParen ∷ []))
  null : {a : Side} {us : List Terminal} → IsSide a us → IsTest (Null IsNull a) (us ++ key Is ∷ key NullKey ∷ [])
  not_null : {a : Side} {us : List Terminal} → IsSide a us → IsTest (Null NotNull a) (us ++ key Is ∷ key Not ∷ key NullKey ∷ [])

-- a condition's tree
pub data Cond : Type 0 where
  test : Test → Cond
  both : Cond → Cond → Cond
  either : Cond → Cond → Cond

-- each operator behind its sides
abbrev pub postfix : Cond → List Node
postfix (test t) = TestNode t ∷ []
postfix (both a b) = postfix a ++ (postfix b ++ AndNode ∷ [])
postfix (either a b) = postfix a ++ (postfix b ++ OrNode ∷ [])

mutual
  -- cond = conj | cond OR conj
  pub data IsCond : Cond → List Terminal → Type 0 where
    conj : {c : Cond} {us : List Terminal} → IsConj c us → IsCond c us
    or : {a b : Cond} {us vs : List Terminal} → IsCond a us → IsConj b vs → IsCond (either a b) (us ++ key Or ∷ vs)

  -- conj = prim | conj AND prim
  pub data IsConj : Cond → List Terminal → Type 0 where
    prim : {c : Cond} {us : List Terminal} → IsPrim c us → IsConj c us
    and : {a b : Cond} {us vs : List Terminal} → IsConj a us → IsPrim b vs → IsConj (both a b) (us ++ key And ∷ vs)

  -- prim = "(" cond ")" | test
  pub data IsPrim : Cond → List Terminal → Type 0 where
    brackets : {c : Cond} {us : List Terminal} → IsCond c us → IsPrim c (sign LeftParen ∷ (us ++ sign RightParen ∷ []))
    of_test : {t : Test} {us : List Terminal} → IsTest t us → IsPrim (test t) us

-- item = name "." "*" | side alias
pub data IsItem : Item → List Terminal → Type 0 where
  all_of : {n : List ℕ} → IsItem (AllOf n) (name n ∷ sign Dot ∷ sign Star ∷ [])
  one : {s : Side} {a : Option (List ℕ)} {us vs : List Terminal} → IsSide s us → IsAlias a vs → IsItem (One s) (us ++ vs)

-- heads = "*" | item { "," item }
pub data IsHeads : Heads → List Terminal → Type 0 where
  all : IsHeads All (sign Star ∷ [])
  items : {items : List Item} {us : List Terminal} → IsListed IsItem items us → IsHeads (Items items) us

-- source = name alias
pub data IsSource : Source → List Terminal → Type 0 where
  source : {n : List ℕ} {a : Option (List ℕ)} {us : List Terminal} → IsAlias a us → IsSource (record { table = n; alias = a }) (name n ∷ us)

-- c AND d, where c may be missing
abbrev pub also : Option Cond → Cond → Cond
also None d = d
also (Some c) d = both c d

-- join = [INNER] JOIN source ON cond
pub data IsJoin : Source → Cond → List Terminal → Type 0 where
  join : {s : Source} {d : Cond} {us vs : List Terminal} → IsSource s us → IsCond d vs → IsJoin s d (key Join ∷ (us ++ key On ∷ vs))
  inner : {s : Source} {d : Cond} {us vs : List Terminal} → IsSource s us → IsCond d vs → IsJoin s d (key Inner ∷ key Join ∷ (us ++ key On ∷ vs))

-- sources = source | sources "," source | sources CROSS JOIN source | sources join; with the conditions behind ON, joined by AND
pub data AreSources : List Source → Option Cond → List Terminal → Type 0 where
  first : {s : Source} {us : List Terminal} → IsSource s us → AreSources (s ∷ []) None us
  comma : {ss : List Source} {o : Option Cond} {s : Source} {us vs : List Terminal} → AreSources ss o us → IsSource s vs
      → AreSources (ss ++ s ∷ []) o (us ++ sign Comma ∷ vs)
  cross : {ss : List Source} {o : Option Cond} {s : Source} {us vs : List Terminal} → AreSources ss o us → IsSource s vs
      → AreSources (ss ++ s ∷ []) o (us ++ key Cross ∷ key Join ∷ vs)
  join : {ss : List Source} {o : Option Cond} {s : Source} {d : Cond} {us vs : List Terminal} → AreSources ss o us → IsJoin s d vs
      → AreSources (ss ++ s ∷ []) (Some (also o d)) (us ++ vs)

-- where = [ WHERE cond ], behind other conditions
pub data IsWhere (o : Option Cond) : Option Cond → List Terminal → Type 0 where
  none : IsWhere o o []
  where_ : {d : Cond} {us : List Terminal} → IsCond d us → IsWhere o (Some (also o d)) (key Where ∷ us)

abbrev pub nodes_of : Option Cond → List Node
nodes_of None = []
nodes_of (Some c) = postfix c

-- [DISTINCT]
pub data IsDistinct : List Terminal → Type 0 where
  none : IsDistinct []
  distinct : IsDistinct (key Distinct ∷ [])

-- select = SELECT [DISTINCT] heads FROM sources where
pub data IsSelect : SelectText → List Terminal → Type 0 where
  select : {hs : Heads} {ss : List Source} {o c : Option Cond} {ds us vs ws : List Terminal} → IsDistinct ds → IsHeads hs us → AreSources ss o vs
      → IsWhere o c ws
      → IsSelect (record { heads = hs; sources = ss; condition = nodes_of c }) (key Select ∷ (ds ++ us ++ key From ∷ (vs ++ ws)))

-- selects = select | selects UNION [DISTINCT] select
pub data AreSelects : List SelectText → List Terminal → Type 0 where
  first : {s : SelectText} {us : List Terminal} → IsSelect s us → AreSelects (s ∷ []) us
  union : {ss : List SelectText} {s : SelectText} {us ds vs : List Terminal} → AreSelects ss us → IsDistinct ds → IsSelect s vs
      → AreSelects (ss ++ s ∷ []) (us ++ key Union ∷ (ds ++ vs))

-- query = selects [";"]
pub data IsQuery : QueryText → List Terminal → Type 0 where
  plain : {ss : List SelectText} {us : List Terminal} → AreSelects ss us → IsQuery (record { selects = ss }) us
  semicolon : {ss : List SelectText} {us : List Terminal} → AreSelects ss us → IsQuery (record { selects = ss }) (us ++ sign Semicolon ∷ [])

-- the words spell the query
abbrev pub IsQueryText : QueryText → List Lexeme → Type 0
IsQueryText text words = IsQuery text (terminals words)

-- a condition is empty, or a tree in postfix order
abbrev pub HasTree : List Node → Type 0
HasTree condition = (condition ≡ []) ⊎ ((tree : Cond) × (condition ≡ postfix tree))
