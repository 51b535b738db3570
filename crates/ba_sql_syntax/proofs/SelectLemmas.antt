-- Heads, sources and selects: what is read is spelled so, and what is spelled so is read.
use Rattle.std.proofs.Common.{◌≡◌, ℕ, suc, ◌<◌, ◌≤◌, Bool, true, false, cond, List, [], ◌∷◌, ◌++◌, length, Option, Some, None, Result, Ok, refl, sym, ap, subst, ◌∙◌, append_assoc, arith, length-append}
use Rattle.ba_grammar.specs.Front.{begins, listed, past, skip}
use Rattle.ba_model.specs.Readings.{◌>>=◌}
use Rattle.ba_grammar.specs.declared.error.Syntax.{Syntax}
use Rattle.ba_grammar.proofs.WordLemmas.{bind_ok, ok_same}
use Rattle.ba_lex.specs.declared.token.Sign.TheVariants.{Comma, Dot, Star}
use Rattle.ba_sql_syntax.specs.Grammar.{AreSources, Cond, IsAlias, IsCond, IsDistinct, IsHeads, IsItem, IsJoin, IsListed, IsSelect, IsSide, IsSource, IsWhere, also, both, either, nodes_of, postfix, test}
use Rattle.ba_sql_syntax.specs.Grammar.AreSources.{first as first_source, comma, cross, join as join_more}
use Rattle.ba_sql_syntax.specs.Grammar.IsAlias.{none as no_alias, plain as plain_alias, behind_as}
use Rattle.ba_sql_syntax.specs.Grammar.IsDistinct.{none as not_distinct, distinct}
use Rattle.ba_sql_syntax.specs.Grammar.IsHeads.{all as all_heads, items as item_heads}
use Rattle.ba_sql_syntax.specs.Grammar.IsItem.{all_of, one as one_item}
use Rattle.ba_sql_syntax.specs.Grammar.IsJoin.{join, inner}
use Rattle.ba_sql_syntax.specs.Grammar.IsListed.{one as one_listed, more as more_listed}
use Rattle.ba_sql_syntax.specs.Grammar.IsSelect.{select}
use Rattle.ba_sql_syntax.specs.Grammar.IsSide.{qualified, plain as plain_side, literal as literal_side}
use Rattle.ba_sql_syntax.specs.Grammar.IsSource.{source}
use Rattle.ba_sql_syntax.specs.Grammar.IsWhere.{none as no_where, where_}
use Rattle.ba_sql_syntax.specs.Reader.{Joined, Read, alias_at, and_also, condition_at, cross_source, free_source, has_source, heads_at, is_all_of, item_at, join_goes, join_step, joined, name_at, next_source, on_source, run, select_at, side_at, source_at, sources_at, where_at}
use Rattle.ba_sql_syntax.specs.Terminals.{Terminal, constant, is_key, is_sign, key, name, sign}
use Rattle.ba_sql_syntax.specs.declared.word.Key.TheVariants.{Select, Distinct, From, Where, Join, Inner, Cross, On}
use Rattle.ba_sql_syntax.specs.declared.written.Heads.{Heads}
use Rattle.ba_sql_syntax.specs.declared.written.Heads.TheVariants.{All, Items}
use Rattle.ba_sql_syntax.specs.declared.written.Item.{Item}
use Rattle.ba_sql_syntax.specs.declared.written.Item.TheVariants.{AllOf, One}
use Rattle.ba_sql_syntax.specs.declared.written.Node.{Node}
use Rattle.ba_sql_syntax.specs.declared.written.Node.TheVariants.{And as AndNode, Or as OrNode}
use Rattle.ba_sql_syntax.specs.declared.written.Select.{Select as SelectText}
use Rattle.ba_sql_syntax.specs.declared.written.Side.{Side}
use Rattle.ba_sql_syntax.specs.declared.written.Source.{Source}
use Rattle.ba_sql_syntax.proofs.ConditionLemmas.{EndsCond, behind, condition_complete, condition_sound}
use Rattle.ba_sql_syntax.proofs.FrontLemmas.{IsComplete, IsSound, Moves, Spelled, listed_complete, listed_sound, moves_then, name_read, past_key, past_sign, run_keeps, run_moves, skipped_key, skips_none}
use Rattle.ba_sql_syntax.proofs.FrontLemmas.Moves.{go, stay}
use Rattle.ba_sql_syntax.proofs.SideLemmas.{EndsName, First, alias_complete, alias_sound, first_no_sign, side_complete, side_first, side_sound}
use Rattle.ba_sql_syntax.proofs.SideLemmas.First.{by_name, by_constant}

-- ---- items and heads

abbrev all_end : List ℕ → List Terminal → Read Item
all_end n rest = Ok (AllOf n, rest)

abbrev all_star : List ℕ → List Terminal → Read Item
all_star n rest = past (is_sign Star) rest >>= all_end n

abbrev all_dot : List ℕ × List Terminal → Read Item
all_dot n = past (is_sign Dot) n.1 >>= all_star n.0

abbrev item_end : Side → Option (List ℕ) × List Terminal → Read Item
item_end s a = Ok (One s, a.1)

abbrev item_alias : Side × List Terminal → Read Item
item_alias s = alias_at s.1 >>= item_end s.0

item_chosen : (b : Bool) (ts : List Terminal) (p : Item × List Terminal) → cond b (name_at ts >>= all_dot) (side_at ts >>= item_alias) ≡ Ok p
    → Spelled IsItem p.0 ts p.1
item_chosen true ts p e =
    let a = bind_ok (name_at ts) all_dot p e in
    let b = bind_ok (past (is_sign Dot) a.0.1) (all_star a.0.0) p a.2 in
    let c = bind_ok (past (is_sign Star) b.0) (all_end a.0.0) p b.2 in
    subst (λ (q : Item × List Terminal). Spelled IsItem q.0 ts q.1) (ok_same (AllOf a.0.0, c.0) p c.2) (record {
      us = name a.0.0 ∷ sign Dot ∷ sign Star ∷ [];
      is = all_of;
      all = name_read ts a.0 a.1 ∙ ap (λ (r : List Terminal). name a.0.0 ∷ r) (past_sign Dot a.0.1 b.0 b.1) ∙ ap (λ (r : List Terminal). name a.0.0 ∷ sign Dot ∷ r) (past_sign Star b.0 c.0 c.1);
    })
item_chosen false ts p e =
    let a = bind_ok (side_at ts) item_alias p e in
    let b = bind_ok (alias_at a.0.1) (item_end a.0.0) p a.2 in
    let s = side_sound ts a.0 a.1 in
    let n = alias_sound a.0.1 b.0 b.1 in
    subst (λ (q : Item × List Terminal). Spelled IsItem q.0 ts q.1) (ok_same (One a.0.0, b.0.1) p b.2) (record {
      us = s.us ++ n.us;
      is = one_item s.is n.is;
      all = behind ts s.us a.0.1 n.us b.0.1 s.all n.all;
    })

item_sound : IsSound item_at IsItem
unfolding item_at
item_sound ts p e = item_chosen (is_all_of ts) ts p e

alias_no_dot : {a : Option (List ℕ)} {vs : List Terminal} → IsAlias a vs → (rest : List Terminal) → EndsName rest → begins (is_sign Dot) (vs ++ rest) ≡ false
alias_no_dot no_alias rest ends = ends.dot
alias_no_dot plain_alias rest ends = refl
alias_no_dot behind_as rest ends = refl

no_dot_behind : (t : Terminal) (ts : List Terminal) → begins (is_sign Dot) ts ≡ false → is_all_of (t ∷ ts) ≡ false
no_dot_behind t [] h = refl
no_dot_behind t (u ∷ []) h = refl
no_dot_behind t (u ∷ v ∷ ts) h = rw h refl

no_star_behind : {s : Side} {us : List Terminal} → IsSide s us → (rest : List Terminal) → begins (is_sign Dot) rest ≡ false → is_all_of (us ++ rest) ≡ false
no_star_behind qualified rest h = refl
no_star_behind (plain_side {n = n}) rest h = no_dot_behind (name n) rest h
no_star_behind (literal_side {c = c}) rest h = no_dot_behind (constant c) rest h

item_complete : IsComplete item_at IsItem EndsName
unfolding item_at name_at
item_complete _ _ rest all_of ends = refl
item_complete _ _ rest (one_item {s = s} {a = a} {us = us} {vs = vs} i j) ends =
    let dot = alias_no_dot j rest ends in
    let side = side_complete s us (vs ++ rest) i (record { dot = dot }) in
    let alias = alias_complete a vs rest j ends in
    rw (append_assoc us vs rest) (rw (no_star_behind i (vs ++ rest) dot) (rw side (rw alias refl)))

item_first : {x : Item} {us : List Terminal} → IsItem x us → (rest : List Terminal) → First (us ++ rest)
item_first all_of rest = by_name
item_first (one_item {s = s} {a = a} {us = us} {vs = vs} i j) rest = subst First (sym (append_assoc us vs rest)) (side_first i (vs ++ rest))

items_first : {xs : List Item} {us : List Terminal} → IsListed IsItem xs us → (rest : List Terminal) → First (us ++ rest)
items_first (one_listed i) rest = item_first i rest
items_first (more_listed {us = us} {vs = vs} l i) rest = subst First (sym (append_assoc us (sign Comma ∷ vs) rest)) (items_first l (sign Comma ∷ (vs ++ rest)))

abbrev heads_all : List Terminal → Read Heads
heads_all rest = Ok (All, rest)

abbrev heads_items : List Item × List Terminal → Read Heads
heads_items items = Ok (Items items.0, items.1)

heads_chosen : (b : Bool) (ts : List Terminal) (p : Heads × List Terminal)
    → cond b (past (is_sign Star) ts >>= heads_all) (listed (is_sign Comma) item_at ts >>= heads_items) ≡ Ok p → Spelled IsHeads p.0 ts p.1
heads_chosen true ts p e =
    let a = bind_ok (past (is_sign Star) ts) heads_all p e in
    subst (λ (q : Heads × List Terminal). Spelled IsHeads q.0 ts q.1) (ok_same (All, a.0) p a.2) (record { us = sign Star ∷ []; is = all_heads; all = past_sign Star ts a.0 a.1 })
heads_chosen false ts p e =
    let a = bind_ok (listed (is_sign Comma) item_at ts) heads_items p e in
    let l = listed_sound item_at IsItem item_sound ts a.0 a.1 in
    subst (λ (q : Heads × List Terminal). Spelled IsHeads q.0 ts q.1) (ok_same (Items a.0.0, a.0.1) p a.2) (record { us = l.us; is = item_heads l.is; all = l.all })

heads_sound : IsSound heads_at IsHeads
unfolding heads_at
heads_sound ts p e = heads_chosen (begins (is_sign Star) ts) ts p e

heads_complete : (hs : Heads) (us rest : List Terminal) → IsHeads hs us → EndsName rest → begins (is_sign Comma) rest ≡ false
    → heads_at (us ++ rest) ≡ Ok (hs, rest)
unfolding heads_at
heads_complete _ _ rest all_heads ends stop = refl
heads_complete _ us rest (item_heads {items = items} l) ends stop =
    let list = listed_complete item_at IsItem EndsName item_complete (λ ts. record { dot = refl; as_ = refl; name_ = refl }) items us rest l ends stop in
    rw (first_no_sign Star (items_first l rest)) (rw list refl)

first_not_distinct : {ts : List Terminal} → First ts → begins (is_key Distinct) ts ≡ false
first_not_distinct by_name = refl
first_not_distinct by_constant = refl

heads_not_distinct : {hs : Heads} {us : List Terminal} → IsHeads hs us → (rest : List Terminal) → begins (is_key Distinct) (us ++ rest) ≡ false
heads_not_distinct all_heads rest = refl
heads_not_distinct (item_heads l) rest = first_not_distinct (items_first l rest)

-- ---- sources

abbrev source_end : List ℕ → Option (List ℕ) × List Terminal → Read Source
source_end n a = Ok (record { table = n; alias = a.0 }, a.1)

abbrev source_alias : List ℕ × List Terminal → Read Source
source_alias n = alias_at n.1 >>= source_end n.0

source_sound : IsSound source_at IsSource
unfolding source_at
source_sound ts p e =
    let a = bind_ok (name_at ts) source_alias p e in
    let b = bind_ok (alias_at a.0.1) (source_end a.0.0) p a.2 in
    let n = alias_sound a.0.1 b.0 b.1 in
    subst (λ (q : Source × List Terminal). Spelled IsSource q.0 ts q.1) (ok_same (record { table = a.0.0; alias = b.0.0 }, b.0.1) p b.2) (record {
      us = name a.0.0 ∷ n.us;
      is = source n.is;
      all = name_read ts a.0 a.1 ∙ ap (λ (r : List Terminal). name a.0.0 ∷ r) n.all;
    })

source_complete : IsComplete source_at IsSource EndsName
unfolding source_at name_at
source_complete _ _ rest (source {n = n} {a = a} {us = us} j) ends = rw (alias_complete a us rest j ends) refl

-- a condition's nodes are some
postfix_size : (c : Cond) → 0 < length (postfix c)
postfix_size (test t) = omega arith
postfix_size (both a b) = omega (arith, postfix_size a, length-append (postfix a) (postfix b ++ AndNode ∷ []))
postfix_size (either a b) = omega (arith, postfix_size a, length-append (postfix a) (postfix b ++ OrNode ∷ []))

and_some : (ns more : List Node) → 0 < length ns → and_also ns more ≡ ns ++ (more ++ AndNode ∷ [])
and_some [] more lt = absurd (omega (arith, lt))
and_some (n ∷ ns) more lt = refl

also_nodes : (o : Option Cond) (d : Cond) → and_also (nodes_of o) (postfix d) ≡ nodes_of (Some (also o d))
also_nodes None d = refl
also_nodes (Some c) d = and_some (postfix c) (postfix d) (postfix_size c)

-- the sources and conditions so far
record SourcesOf (ts : List Terminal) (j : Joined) : Type 0 where
  o : Option Cond
  us : List Terminal
  are : AreSources j.sources o us
  condition : j.condition ≡ nodes_of o
  all : ts ≡ us ++ j.rest

record FreeRead (ss : List Source) (c : List Node) (r : List Terminal) (t : Joined) : Type 0 where
  s : Source
  vs : List Terminal
  rest : List Terminal
  is : IsSource s vs
  all : r ≡ vs ++ rest
  same : joined (ss ++ s ∷ []) c rest ≡ t

abbrev free_end : List Source → List Node → Source × List Terminal → Result Joined Syntax
free_end ss c s = Ok (joined (ss ++ s.0 ∷ []) c s.1)

free_read : (ss : List Source) (c : List Node) (r : List Terminal) (t : Joined) → free_source ss c r ≡ Ok t → FreeRead ss c r t
unfolding free_source
free_read ss c r t e =
    let a = bind_ok (source_at r) (free_end ss c) t e in
    let s = source_sound r a.0 a.1 in
    record { s = a.0.0; vs = s.us; rest = a.0.1; is = s.is; all = s.all; same = ok_same (joined (ss ++ a.0.0 ∷ []) c a.0.1) t a.2 }

record OnRead (ss : List Source) (c : List Node) (r : List Terminal) (t : Joined) : Type 0 where
  s : Source
  d : Cond
  vs : List Terminal
  ws : List Terminal
  rest : List Terminal
  is : IsSource s vs
  on : IsCond d ws
  all : r ≡ key Join ∷ (vs ++ key On ∷ (ws ++ rest))
  same : joined (ss ++ s ∷ []) (and_also c (postfix d)) rest ≡ t

abbrev on_end : List Source → List Node → Source → List Node × List Terminal → Result Joined Syntax
on_end ss c s m = Ok (joined (ss ++ s ∷ []) (and_also c m.0) m.1)

abbrev on_cond : List Source → List Node → Source → List Terminal → Result Joined Syntax
on_cond ss c s rest = condition_at rest >>= on_end ss c s

abbrev on_on : List Source → List Node → Source × List Terminal → Result Joined Syntax
on_on ss c s = past (is_key On) s.1 >>= on_cond ss c s.0

abbrev on_join : List Source → List Node → List Terminal → Result Joined Syntax
on_join ss c rest = source_at rest >>= on_on ss c

on_read : (ss : List Source) (c : List Node) (r : List Terminal) (t : Joined) → on_source ss c r ≡ Ok t → OnRead ss c r t
unfolding on_source
on_read ss c r t e =
    let a = bind_ok (past (is_key Join) r) (on_join ss c) t e in
    let b = bind_ok (source_at a.0) (on_on ss c) t a.2 in
    let f = bind_ok (past (is_key On) b.0.1) (on_cond ss c b.0.0) t b.2 in
    let g = bind_ok (condition_at f.0) (on_end ss c b.0.0) t f.2 in
    let s = source_sound a.0 b.0 b.1 in
    let d = condition_sound f.0 g.0 g.1 in
    let nodes = d.is.same in
    record {
      s = b.0.0;
      d = d.is.tree;
      vs = s.us;
      ws = d.us;
      rest = g.0.1;
      is = s.is;
      on = d.is.is;
      all = joined_all r a.0 b.0.1 f.0 g.0.1 s.us d.us (past_key Join r a.0 a.1) s.all (past_key On b.0.1 f.0 f.1) d.all;
      same = ap (λ (n : List Node). joined (ss ++ b.0.0 ∷ []) (and_also c n) g.0.1) (sym nodes) ∙ ok_same (joined (ss ++ b.0.0 ∷ []) (and_also c g.0.0) g.0.1) t g.2;
    }
  where
    joined_all : (r r1 r2 r3 r4 vs ws : List Terminal) → r ≡ key Join ∷ r1 → r1 ≡ vs ++ r2 → r2 ≡ key On ∷ r3 → r3 ≡ ws ++ r4
        → r ≡ key Join ∷ (vs ++ key On ∷ (ws ++ r4))
    joined_all r r1 r2 r3 r4 vs ws e f g h = rw (e, f, g, h) refl

free_more : (ts : List Terminal) (ss : List Source) (c : List Node) (rest us r : List Terminal) (o : Option Cond) (t : Joined) → AreSources ss o us
    → c ≡ nodes_of o → ts ≡ us ++ rest → rest ≡ sign Comma ∷ r → FreeRead ss c r t → SourcesOf ts t
free_more ts ss c rest us r o t are n all e f =
    subst (SourcesOf ts) f.same (record {
      o = o;
      us = us ++ sign Comma ∷ f.vs;
      are = comma are f.is;
      condition = n;
      all = all ∙ grouped us rest r f.vs f.rest e f.all;
    })
  where
    grouped : (us rest r vs more : List Terminal) → rest ≡ sign Comma ∷ r → r ≡ vs ++ more → us ++ rest ≡ (us ++ sign Comma ∷ vs) ++ more
    grouped us rest r vs more e f = rw (e, f) (sym (append_assoc us (sign Comma ∷ vs) more))

cross_more : (ts : List Terminal) (ss : List Source) (c : List Node) (rest us r1 r : List Terminal) (o : Option Cond) (t : Joined) → AreSources ss o us
    → c ≡ nodes_of o → ts ≡ us ++ rest → rest ≡ key Cross ∷ r1 → r1 ≡ key Join ∷ r → FreeRead ss c r t → SourcesOf ts t
cross_more ts ss c rest us r1 r o t are n all e g f =
    subst (SourcesOf ts) f.same (record {
      o = o;
      us = us ++ key Cross ∷ key Join ∷ f.vs;
      are = cross are f.is;
      condition = n;
      all = all ∙ grouped us rest r1 r f.vs f.rest e g f.all;
    })
  where
    grouped : (us rest r1 r vs more : List Terminal) → rest ≡ key Cross ∷ r1 → r1 ≡ key Join ∷ r → r ≡ vs ++ more
        → us ++ rest ≡ (us ++ key Cross ∷ key Join ∷ vs) ++ more
    grouped us rest r1 r vs more e g f = rw (e, g, f) (sym (append_assoc us (key Cross ∷ key Join ∷ vs) more))

on_more : (ts : List Terminal) (ss : List Source) (c : List Node) (rest us r : List Terminal) (o : Option Cond) (t : Joined) (b : Bool) → AreSources ss o us
    → c ≡ nodes_of o → ts ≡ us ++ rest → (b ≡ true → rest ≡ key Inner ∷ r) → (b ≡ false → rest ≡ r) → OnRead ss c r t → SourcesOf ts t
on_more ts ss c rest us r o t true are n all e g f =
    subst (SourcesOf ts) f.same (record {
      o = Some (also o f.d);
      us = us ++ key Inner ∷ key Join ∷ (f.vs ++ key On ∷ f.ws);
      are = join_more are (inner f.is f.on);
      condition = ap (λ (x : List Node). and_also x (postfix f.d)) n ∙ also_nodes o f.d;
      all = all ∙ grouped us rest r f.vs f.ws f.rest (e refl) f.all;
    })
  where
    grouped : (us rest r vs ws more : List Terminal) → rest ≡ key Inner ∷ r → r ≡ key Join ∷ (vs ++ key On ∷ (ws ++ more))
        → us ++ rest ≡ (us ++ key Inner ∷ key Join ∷ (vs ++ key On ∷ ws)) ++ more
    grouped us rest r vs ws more e f = rw (e, f) (simp append_assoc)
on_more ts ss c rest us r o t false are n all e g f =
    subst (SourcesOf ts) f.same (record {
      o = Some (also o f.d);
      us = us ++ key Join ∷ (f.vs ++ key On ∷ f.ws);
      are = join_more are (join f.is f.on);
      condition = ap (λ (x : List Node). and_also x (postfix f.d)) n ∙ also_nodes o f.d;
      all = all ∙ grouped us rest r f.vs f.ws f.rest (g refl) f.all;
    })
  where
    grouped : (us rest r vs ws more : List Terminal) → rest ≡ r → r ≡ key Join ∷ (vs ++ key On ∷ (ws ++ more))
        → us ++ rest ≡ (us ++ key Join ∷ (vs ++ key On ∷ ws)) ++ more
    grouped us rest r vs ws more e f = rw (e, f) (simp append_assoc)

abbrev cross_join : List Source → List Node → List Terminal → Result Joined Syntax
cross_join ss c rest = past (is_key Join) rest >>= free_source ss c

next_keeps : (ts : List Terminal) (ss : List Source) (cs : List Node) (rest us : List Terminal) (o : Option Cond) (t : Joined) (b c : Bool)
    → cond b (past (is_sign Comma) rest >>= free_source ss cs) (cond c (past (is_key Cross) rest >>= cross_join ss cs) (on_source ss cs (skip (is_key Inner) rest))) ≡ Ok t
    → AreSources ss o us → cs ≡ nodes_of o → ts ≡ us ++ rest → SourcesOf ts t
next_keeps ts ss cs rest us o t true c e are n all =
    let a = bind_ok (past (is_sign Comma) rest) (free_source ss cs) t e in
    free_more ts ss cs rest us a.0 o t are n all (past_sign Comma rest a.0 a.1) (free_read ss cs a.0 t a.2)
next_keeps ts ss cs rest us o t false true e are n all =
    let a = bind_ok (past (is_key Cross) rest) (cross_join ss cs) t e in
    let b = bind_ok (past (is_key Join) a.0) (free_source ss cs) t a.2 in
    cross_more ts ss cs rest us a.0 b.0 o t are n all (past_key Cross rest a.0 a.1) (past_key Join a.0 b.0 b.1) (free_read ss cs b.0 t b.2)
next_keeps ts ss cs rest us o t false false e are n all =
    let k = skipped_key Inner rest (begins (is_key Inner) rest) refl in
    on_more ts ss cs rest us (skip (is_key Inner) rest) o t (begins (is_key Inner) rest) are n all k.0 k.1 (on_read ss cs (skip (is_key Inner) rest) t e)

sources_keep : (ts : List Terminal) (s t : Joined) → join_step s ≡ Ok t → SourcesOf ts s → SourcesOf ts t
unfolding next_source cross_source
sources_keep ts s t e h =
    next_keeps ts s.sources s.condition s.rest h.us h.o t (begins (is_sign Comma) s.rest) (begins (is_key Cross) s.rest) e h.are h.condition h.all

abbrev sources_run : List Terminal → Source × List Terminal → Result Joined Syntax
sources_run ts s = run join_goes join_step (length ts) (joined (s.0 ∷ []) [] s.1)

sources_sound : (ts : List Terminal) (t : Joined) → sources_at ts ≡ Ok t → SourcesOf ts t
unfolding sources_at
sources_sound ts t e =
    let a = bind_ok (source_at ts) (sources_run ts) t e in
    let s = source_sound ts a.0 a.1 in
    run_keeps join_goes join_step (SourcesOf ts) (λ x y g f k. sources_keep ts x y f k) (length ts) (joined (a.0.0 ∷ []) [] a.0.1) t a.2 (record { o = None; us = s.us; are = first_source s.is; condition = refl; all = s.all })

-- what ends a source and the condition behind it
pub record EndsPart (ts : List Terminal) : Type 0 where
  pub named : EndsName ts
  pub condition : EndsCond ts

abbrev left : Joined → ℕ
left j = length j.rest

abbrev Goes : Joined → Joined → Type 0
Goes = Moves left join_goes join_step

record Begun (ts : List Terminal) (j : Joined) : Type 0 where
  first : Source
  behind_it : List Terminal
  read : source_at ts ≡ Ok (first, behind_it)
  size : length behind_it ≤ length ts
  moves : Goes (joined (first ∷ []) [] behind_it) j

comma_moves : (ss : List Source) (c : List Node) (s : Source) (vs rest : List Terminal) → IsSource s vs → EndsName rest
    → Goes (joined ss c (sign Comma ∷ (vs ++ rest))) (joined (ss ++ s ∷ []) c rest)
unfolding next_source has_source free_source
comma_moves ss c s vs rest i ends = go refl (rw (source_complete s vs rest i ends) refl) (omega (arith, length-append vs rest)) stay

cross_moves : (ss : List Source) (c : List Node) (s : Source) (vs rest : List Terminal) → IsSource s vs → EndsName rest
    → Goes (joined ss c (key Cross ∷ key Join ∷ (vs ++ rest))) (joined (ss ++ s ∷ []) c rest)
unfolding next_source has_source free_source cross_source
cross_moves ss c s vs rest i ends = go refl (rw (source_complete s vs rest i ends) refl) (omega (arith, length-append vs rest)) stay

on_read_so : (ss : List Source) (c : List Node) (s : Source) (d : Cond) (us vs rest : List Terminal) → IsSource s us → IsCond d vs → EndsPart rest
    → on_source ss c (key Join ∷ ((us ++ key On ∷ vs) ++ rest)) ≡ Ok (joined (ss ++ s ∷ []) (and_also c (postfix d)) rest)
unfolding on_source
on_read_so ss c s d us vs rest i j ends =
    let first = source_complete s us (key On ∷ (vs ++ rest)) i (record { dot = refl; as_ = refl; name_ = refl }) in
    rw (append_assoc us (key On ∷ vs) rest) (rw first (rw (condition_complete d vs rest j ends.condition) refl))

join_size : (us vs rest : List Terminal) → length rest < suc (length ((us ++ key On ∷ vs) ++ rest))
join_size us vs rest = omega (arith, length-append (us ++ key On ∷ vs) rest)

join_moves : {s : Source} {d : Cond} {vs : List Terminal} → IsJoin s d vs → (ss : List Source) (c : List Node) (rest : List Terminal) → EndsPart rest
    → Goes (joined ss c (vs ++ rest)) (joined (ss ++ s ∷ []) (and_also c (postfix d)) rest)
unfolding next_source has_source
join_moves (join {s = s} {d = d} {us = us} {vs = vs} i j) ss c rest ends = go refl (on_read_so ss c s d us vs rest i j ends) (join_size us vs rest) stay
join_moves (inner {s = s} {d = d} {us = us} {vs = vs} i j) ss c rest ends =
    go refl (on_read_so ss c s d us vs rest i j ends) (omega (arith, join_size us vs rest)) stay

join_part : {s : Source} {d : Cond} {vs : List Terminal} → IsJoin s d vs → (rest : List Terminal) → EndsPart (vs ++ rest)
join_part (join i j) rest = record { named = record { dot = refl; as_ = refl; name_ = refl }; condition = record { dot = refl; and_ = refl; or_ = refl } }
join_part (inner i j) rest = record { named = record { dot = refl; as_ = refl; name_ = refl }; condition = record { dot = refl; and_ = refl; or_ = refl } }

more_moves : (ts us words : List Terminal) (j k : Joined) → ts ≡ us → Begun us j → Goes j k → Begun ts k
more_moves ts us words j k e b m =
    record { first = b.first; behind_it = b.behind_it; read = ap source_at e ∙ b.read; size = rw e b.size; moves = moves_then left join_goes join_step b.moves m }

sources_begun : {ss : List Source} {o : Option Cond} {us : List Terminal} → AreSources ss o us → (rest : List Terminal) → EndsPart rest
    → Begun (us ++ rest) (joined ss (nodes_of o) rest)
sources_begun (first_source {s = s} {us = us} i) rest ends =
    record { first = s; behind_it = rest; read = source_complete s us rest i ends.named; size = omega (arith, length-append us rest); moves = stay }
sources_begun (comma {ss = ss} {o = o} {s = s} {us = us} {vs = vs} a i) rest ends =
    more_moves ((us ++ sign Comma ∷ vs) ++ rest) (us ++ sign Comma ∷ (vs ++ rest)) rest _ _ (append_assoc us (sign Comma ∷ vs) rest)
    (sources_begun a (sign Comma ∷ (vs ++ rest)) (record { named = record { dot = refl; as_ = refl; name_ = refl }; condition = record { dot = refl; and_ = refl; or_ = refl } }))
    (comma_moves ss (nodes_of o) s vs rest i ends.named)
sources_begun (cross {ss = ss} {o = o} {s = s} {us = us} {vs = vs} a i) rest ends =
    more_moves ((us ++ key Cross ∷ key Join ∷ vs) ++ rest) (us ++ key Cross ∷ key Join ∷ (vs ++ rest)) rest _ _ (append_assoc us (key Cross ∷ key Join ∷ vs) rest)
    (sources_begun a (key Cross ∷ key Join ∷ (vs ++ rest)) (record { named = record { dot = refl; as_ = refl; name_ = refl }; condition = record { dot = refl; and_ = refl; or_ = refl } }))
    (cross_moves ss (nodes_of o) s vs rest i ends.named)
sources_begun (join_more {ss = ss} {o = o} {s = s} {d = d} {us = us} {vs = vs} a i) rest ends =
    let last : Goes (joined ss (nodes_of o) (vs ++ rest)) (joined (ss ++ s ∷ []) (nodes_of (Some (also o d))) rest) =
    subst (λ (n : List Node). Goes (joined ss (nodes_of o) (vs ++ rest)) (joined (ss ++ s ∷ []) n rest)) (also_nodes o d) (join_moves i ss (nodes_of o) rest ends) in
    more_moves ((us ++ vs) ++ rest) (us ++ (vs ++ rest)) rest _ _ (append_assoc us vs rest) (sources_begun a (vs ++ rest) (join_part i rest)) last

sources_complete : (ss : List Source) (o : Option Cond) (us rest : List Terminal) → AreSources ss o us → EndsPart rest → has_source rest ≡ false
    → sources_at (us ++ rest) ≡ Ok (joined ss (nodes_of o) rest)
unfolding sources_at
sources_complete ss o us rest a ends stop =
    let b = sources_begun a rest ends in
    rw b.read (run_moves left join_goes join_step b.moves stop (length (us ++ rest)) b.size)

-- ---- WHERE

abbrev where_end : List Node → List Node × List Terminal → Read (List Node)
where_end c m = Ok (and_also c m.0, m.1)

abbrev where_cond : List Node → List Terminal → Read (List Node)
where_cond c rest = condition_at rest >>= where_end c

record WhereRead (o : Option Cond) (ts : List Terminal) (p : List Node × List Terminal) : Type 0 where
  c : Option Cond
  us : List Terminal
  is : IsWhere o c us
  nodes : p.0 ≡ nodes_of c
  all : ts ≡ us ++ p.1

and_nodes : (o : Option Cond) (ns ms : List Node) (d : Cond) → ns ≡ nodes_of o → ms ≡ postfix d → and_also ns ms ≡ nodes_of (Some (also o d))
and_nodes o ns ms d e f = rw (e, f) (also_nodes o d)

where_chosen : (b : Bool) (o : Option Cond) (ns : List Node) (ts : List Terminal) (p : List Node × List Terminal)
    → cond b (past (is_key Where) ts >>= where_cond ns) (Ok (ns, ts)) ≡ Ok p → ns ≡ nodes_of o → WhereRead o ts p
where_chosen true o ns ts p e n =
    let a = bind_ok (past (is_key Where) ts) (where_cond ns) p e in
    let b = bind_ok (condition_at a.0) (where_end ns) p a.2 in
    let d = condition_sound a.0 b.0 b.1 in
    let same = d.is.same in
    let nodes : and_also ns b.0.0 ≡ nodes_of (Some (also o d.is.tree)) = and_nodes o ns b.0.0 d.is.tree n same in
    subst (WhereRead o ts) (ok_same (and_also ns b.0.0, b.0.1) p b.2) (record {
      c = Some (also o d.is.tree);
      us = key Where ∷ d.us;
      is = where_ d.is.is;
      nodes = nodes;
      all = past_key Where ts a.0 a.1 ∙ ap (λ (r : List Terminal). key Where ∷ r) d.all;
    })
where_chosen false o ns ts p e n =
    subst (WhereRead o ts) (ok_same (ns, ts) p e) (record { c = o; us = []; is = no_where; nodes = n; all = refl })

where_sound : (o : Option Cond) (ns : List Node) (ts : List Terminal) (p : List Node × List Terminal) → where_at ns ts ≡ Ok p → ns ≡ nodes_of o
    → WhereRead o ts p
unfolding where_at
where_sound o ns ts p e n = where_chosen (begins (is_key Where) ts) o ns ts p e n

where_complete : {o c : Option Cond} {us : List Terminal} → IsWhere o c us → (rest : List Terminal) → EndsCond rest → begins (is_key Where) rest ≡ false
    → where_at (nodes_of o) (us ++ rest) ≡ Ok (nodes_of c, rest)
unfolding where_at
where_complete no_where rest ends stop = rw stop refl
where_complete {o = o} (where_ {d = d} {us = us} i) rest ends stop =
    rw (condition_complete d us rest i ends) (ap (λ (n : List Node). Ok (n, rest)) (also_nodes o d))

-- ---- selects

-- what ends a select
pub record EndsSelect (ts : List Terminal) : Type 0 where
  pub part : EndsPart ts
  pub source_ : has_source ts ≡ false
  pub where_so : begins (is_key Where) ts ≡ false

where_part : {o c : Option Cond} {us : List Terminal} → IsWhere o c us → (rest : List Terminal) → EndsPart rest → EndsPart (us ++ rest)
where_part no_where rest ends = ends
where_part (where_ i) rest ends = record { named = record { dot = refl; as_ = refl; name_ = refl }; condition = record { dot = refl; and_ = refl; or_ = refl } }

where_source : {o c : Option Cond} {us : List Terminal} → IsWhere o c us → (rest : List Terminal) → has_source rest ≡ false → has_source (us ++ rest) ≡ false
unfolding has_source
where_source no_where rest h = h
where_source (where_ i) rest h = refl

pub record DistinctRead (ts : List Terminal) : Type 0 where
  pub ds : List Terminal
  pub is : IsDistinct ds
  pub all : ts ≡ ds ++ skip (is_key Distinct) ts

pub distinct_read : (ts : List Terminal) → DistinctRead ts
distinct_read ts = at (begins (is_key Distinct) ts) (skipped_key Distinct ts (begins (is_key Distinct) ts) refl)
  where
    at : (b : Bool) → (b ≡ true → ts ≡ key Distinct ∷ skip (is_key Distinct) ts) × (b ≡ false → ts ≡ skip (is_key Distinct) ts) → DistinctRead ts
    at true h = record { ds = key Distinct ∷ []; is = distinct; all = h.0 refl }
    at false h = record { ds = []; is = not_distinct; all = h.1 refl }

pub distinct_skipped : {ds : List Terminal} → IsDistinct ds → (ts : List Terminal) → begins (is_key Distinct) ts ≡ false
    → skip (is_key Distinct) (ds ++ ts) ≡ ts
distinct_skipped not_distinct ts h = skips_none (is_key Distinct) ts h
distinct_skipped distinct ts h = refl

abbrev select_end : Heads → List Source → List Node × List Terminal → Read SelectText
select_end hs ss c = Ok (record { heads = hs; sources = ss; condition = c.0 }, c.1)

abbrev select_where : Heads → Joined → Read SelectText
select_where hs j = where_at j.condition j.rest >>= select_end hs j.sources

abbrev select_sources : Heads → List Terminal → Read SelectText
select_sources hs rest = sources_at rest >>= select_where hs

abbrev select_from : Heads × List Terminal → Read SelectText
select_from hs = past (is_key From) hs.1 >>= select_sources hs.0

abbrev select_heads : List Terminal → Read SelectText
select_heads rest = heads_at (skip (is_key Distinct) rest) >>= select_from

select_all : (ts r1 r2 r3 r4 r5 rest ds us vs ws : List Terminal) → ts ≡ key Select ∷ r1 → r1 ≡ ds ++ r2 → r2 ≡ us ++ r3 → r3 ≡ key From ∷ r4 → r4 ≡ vs ++ r5
    → r5 ≡ ws ++ rest → ts ≡ (key Select ∷ (ds ++ us ++ key From ∷ (vs ++ ws))) ++ rest
select_all ts r1 r2 r3 r4 r5 rest ds us vs ws e f g h i j = rw (e, f, g, h, i, j) (simp append_assoc)

pub select_sound : IsSound select_at IsSelect
unfolding select_at
select_sound ts p e =
    let a = bind_ok (past (is_key Select) ts) select_heads p e in
    let b = bind_ok (heads_at (skip (is_key Distinct) a.0)) select_from p a.2 in
    let c = bind_ok (past (is_key From) b.0.1) (select_sources b.0.0) p b.2 in
    let d = bind_ok (sources_at c.0) (select_where b.0.0) p c.2 in
    let f = bind_ok (where_at d.0.condition d.0.rest) (select_end b.0.0 d.0.sources) p d.2 in
    let ds = distinct_read a.0 in
    let hs = heads_sound (skip (is_key Distinct) a.0) b.0 b.1 in
    let ss = sources_sound c.0 d.0 d.1 in
    let ws = where_sound ss.o d.0.condition d.0.rest f.0 f.1 ss.condition in
    let made : Spelled IsSelect (record { heads = b.0.0; sources = d.0.sources; condition = nodes_of ws.c }) ts f.0.1 = record {
      us = key Select ∷ (ds.ds ++ hs.us ++ key From ∷ (ss.us ++ ws.us));
      is = select ds.is hs.is ss.are ws.is;
      all = select_all ts a.0 (skip (is_key Distinct) a.0) b.0.1 c.0 d.0.rest f.0.1 ds.ds hs.us ss.us ws.us (past_key Select ts a.0 a.1) ds.all hs.all (past_key From b.0.1 c.0 c.1) ss.all ws.all;
    } in
    let nodes = ws.nodes in
    subst (λ (q : SelectText × List Terminal). Spelled IsSelect q.0 ts q.1) (ok_same (record { heads = b.0.0; sources = d.0.sources; condition = f.0.0 }, f.0.1) p f.2)
    (subst (λ (n : List Node). Spelled IsSelect (record { heads = b.0.0; sources = d.0.sources; condition = n }) ts f.0.1) (sym nodes) made)

select_groups : (ds us vs ws rest : List Terminal) → (ds ++ us ++ key From ∷ (vs ++ ws)) ++ rest ≡ ds ++ (us ++ key From ∷ (vs ++ (ws ++ rest)))
select_groups ds us vs ws rest = simp append_assoc

pub select_complete : IsComplete select_at IsSelect EndsSelect
unfolding select_at
select_complete _ _ rest (select {hs = hs} {ss = ss} {o = o} {c = c} {ds = ds} {us = us} {vs = vs} {ws = ws} i h a w) ends =
    let behind_heads = key From ∷ (vs ++ (ws ++ rest)) in
    let skipped = distinct_skipped i (us ++ behind_heads) (heads_not_distinct h behind_heads) in
    let heads = heads_complete hs us behind_heads h (record { dot = refl; as_ = refl; name_ = refl }) refl in
    let sources = sources_complete ss o vs (ws ++ rest) a (where_part w rest ends.part) (where_source w rest ends.source_) in
    let conditions = where_complete w rest ends.part.condition ends.where_so in
    rw (select_groups ds us vs ws rest) (rw skipped (rw heads (rw sources (rw conditions refl))))
