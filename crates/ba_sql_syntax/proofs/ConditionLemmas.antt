-- Conditions: what the reader's steps read is spelled by a tree, and each tree's spelling is read.
use Rattle.std.proofs.Common.{◌≡◌, ℕ, suc, ◌<◌, Bool, true, false, cond, List, [], ◌∷◌, ◌++◌, length, Result, Ok, refl, sym, ap, subst, ◌∙◌, append_assoc, arith, length-append}
use Rattle.std.proofs.lemmas.List.{append-nil}
use Rattle.ba_grammar.specs.Front.{begins, past}
use Rattle.ba_model.specs.Readings.{◌>>=◌}
use Rattle.ba_grammar.specs.declared.error.Syntax.{Syntax}
use Rattle.ba_grammar.proofs.WordLemmas.{bind_ok, err_ok, ok_same}
use Rattle.ba_lex.specs.declared.token.Sign.TheVariants.{LeftParen, RightParen, Dot}
use Rattle.ba_sql_syntax.specs.Grammar.{Cond, IsCond, IsConj, IsPrim, IsTest, both, either, postfix, test}
use Rattle.ba_sql_syntax.specs.Grammar.IsCond.{conj, or}
use Rattle.ba_sql_syntax.specs.Grammar.IsConj.{prim, and}
use Rattle.ba_sql_syntax.specs.Grammar.IsPrim.{brackets, of_test}
use Rattle.ba_sql_syntax.specs.Reader.{Reading, close, condition_at, condition_goes, condition_step, finish, finished, have_step, level, reading, run, start, test_at, turn_step, waiting, want_step}
use Rattle.ba_sql_syntax.specs.Terminals.{Terminal, is_key, is_sign, key, sign}
use Rattle.ba_sql_syntax.specs.declared.condition.Level.{Level}
use Rattle.ba_sql_syntax.specs.declared.condition.Turn.{Turn}
use Rattle.ba_sql_syntax.specs.declared.condition.Turn.TheVariants.{Want, Have}
use Rattle.ba_sql_syntax.specs.declared.word.Key.TheVariants.{And, Or}
use Rattle.ba_sql_syntax.specs.declared.written.Node.{Node}
use Rattle.ba_sql_syntax.specs.declared.written.Node.TheVariants.{Test as TestNode, And as AndNode, Or as OrNode}
use Rattle.ba_sql_syntax.specs.declared.written.Test.{Test}
use Rattle.ba_sql_syntax.proofs.FrontLemmas.{IsSound, Moves, Spelled, moves_then, past_key, past_sign, run_keeps, run_moves}
use Rattle.ba_sql_syntax.proofs.FrontLemmas.Moves.{go, stay}
use Rattle.ba_sql_syntax.proofs.SideLemmas.{EndsSide, first_no_sign, test_complete, test_first, test_size, test_sound}

-- the nodes are those of a tree that is spelled so
pub record IsNodes (nodes : List Node) (us : List Terminal) : Type 0 where
  pub tree : Cond
  pub is : IsCond tree us
  pub same : nodes ≡ postfix tree

-- ---- what was read so far

abbrev OrsOf : Bool → List Node → List Terminal → Type 0
OrsOf false ns u = (ns ≡ []) × (u ≡ [])
OrsOf true ns u = (d : Cond) × (v : List Terminal) × IsCond d v × (ns ≡ postfix d) × (u ≡ v ++ key Or ∷ [])

abbrev AndsOf : Bool → List Node → List Terminal → Type 0
AndsOf false ns u = (ns ≡ []) × (u ≡ [])
AndsOf true ns u = (q : Cond) × (v : List Terminal) × IsConj q v × (ns ≡ postfix q) × (u ≡ v ++ key And ∷ [])

record LevelOf (l : Level) (ns : List Node) (u : List Terminal) : Type 0 where
  ns1 : List Node
  ns2 : List Node
  a : List Terminal
  b : List Terminal
  ors : OrsOf l.or ns1 a
  ands : AndsOf l.and ns2 b
  nodes : ns ≡ ns1 ++ ns2
  all : u ≡ a ++ b

abbrev StackOf : List Level → List Node → List Terminal → Type 0
StackOf [] ns u = (ns ≡ []) × (u ≡ [])
StackOf (l ∷ ls) ns u =
    (ns1 : List Node) × (ns2 : List Node) × (a : List Terminal) × (b : List Terminal) × StackOf ls ns1 a × LevelOf l ns2 b × (ns ≡ ns1 ++ ns2) × (u ≡ a ++ (b ++ sign LeftParen ∷ []))

record WantOf (ls : List Level) (l : Level) (ns : List Node) (u : List Terminal) : Type 0 where
  ns1 : List Node
  ns2 : List Node
  a : List Terminal
  b : List Terminal
  stack : StackOf ls ns1 a
  top : LevelOf l ns2 b
  nodes : ns ≡ ns1 ++ ns2
  all : u ≡ a ++ b

record HaveOf (ls : List Level) (o : Bool) (ns : List Node) (u : List Terminal) : Type 0 where
  ns1 : List Node
  ns2 : List Node
  a : List Terminal
  b : List Terminal
  q : Cond
  v : List Terminal
  stack : StackOf ls ns1 a
  ors : OrsOf o ns2 b
  is : IsConj q v
  nodes : ns ≡ ns1 ++ (ns2 ++ postfix q)
  all : u ≡ a ++ (b ++ v)

abbrev TurnOf : List Level → Turn → List Node → List Terminal → Type 0
TurnOf ls (Want l) ns u = WantOf ls l ns u
TurnOf ls (Have o) ns u = HaveOf ls o ns u

-- of these terminals those before the rest were read
record ReadOf (ts : List Terminal) (r : Reading) : Type 0 where
  u : List Terminal
  so : TurnOf r.levels r.turn r.nodes u
  all : ts ≡ u ++ r.rest

record Conjoined (w : Bool) (p : Cond) (ns : List Node) (b v : List Terminal) : Type 0 where
  q : Cond
  us : List Terminal
  is : IsConj q us
  nodes : postfix q ≡ ns ++ (postfix p ++ waiting w AndNode)
  all : us ≡ b ++ v

with_prim : (w : Bool) (p : Cond) (ns : List Node) (b v : List Terminal) → AndsOf w ns b → IsPrim p v → Conjoined w p ns b v
with_prim false p ns b v h i = record { q = p; us = v; is = prim i; nodes = rw h.0 (sym (append-nil (postfix p))); all = rw h.1 refl }
with_prim true p ns b v h i = record {
  q = both h.0 p;
  us = h.1 ++ key And ∷ v;
  is = and h.2 i;
  nodes = rw h.3 refl;
  all = rw h.4 (sym (append_assoc h.1 (key And ∷ []) v));
}

record Whole (o : Bool) (q : Cond) (ns : List Node) (b v : List Terminal) : Type 0 where
  d : Cond
  us : List Terminal
  is : IsCond d us
  nodes : postfix d ≡ ns ++ (postfix q ++ waiting o OrNode)
  all : us ≡ b ++ v

whole : (o : Bool) (q : Cond) (ns : List Node) (b v : List Terminal) → OrsOf o ns b → IsConj q v → Whole o q ns b v
whole false q ns b v h i = record { d = q; us = v; is = conj i; nodes = rw h.0 (sym (append-nil (postfix q))); all = rw h.1 refl }
whole true q ns b v h i = record {
  d = either h.0 q;
  us = h.1 ++ key Or ∷ v;
  is = or h.2 i;
  nodes = rw h.3 refl;
  all = rw h.4 (sym (append_assoc h.1 (key Or ∷ []) v));
}

-- ---- lists, over plain variables

inner : {X : Type 0} (x y z w : List X) (l m : List X) → l ≡ x ++ y → m ≡ y ++ (z ++ w) → l ++ (z ++ w) ≡ x ++ m
inner x y z w l m e f = rw (e, f) (append_assoc x y (z ++ w))

regroup : {X : Type 0} (n1 n2 n3 n4 p w : List X) (ns q : List X) → ns ≡ n1 ++ n2 → n2 ≡ n3 ++ n4 → q ≡ n4 ++ (p ++ w) → ns ++ (p ++ w) ≡ n1 ++ (n3 ++ q)
regroup n1 n2 n3 n4 p w ns q e f g = rw (e, f, g) (simp append_assoc)

split_end : {X : Type 0} (n1 n2 q w : List X) (ns d : List X) → ns ≡ n1 ++ (n2 ++ q) → d ≡ n2 ++ (q ++ w) → ns ++ w ≡ n1 ++ d
split_end n1 n2 q w ns d e f = rw (e, f) (simp append_assoc)

pub behind : {X : Type 0} (ts u rest us r : List X) → ts ≡ u ++ rest → rest ≡ us ++ r → ts ≡ (u ++ us) ++ r
behind ts u rest us r e f = e ∙ rw f (sym (append_assoc u us r))

-- ---- a test or brackets behind what stands before them

prim_more : (ls : List Level) (l : Level) (ns : List Node) (u v : List Terminal) (p : Cond) → WantOf ls l ns u → IsPrim p v
    → HaveOf ls l.or (ns ++ (postfix p ++ waiting l.and AndNode)) (u ++ v)
prim_more ls l ns u v p h i =
    let w = with_prim l.and p h.top.ns2 h.top.b v h.top.ands i in
    record {
      ns1 = h.ns1;
      ns2 = h.top.ns1;
      a = h.a;
      b = h.top.a;
      q = w.q;
      v = w.us;
      stack = h.stack;
      ors = h.top.ors;
      is = w.is;
      nodes = regroup h.ns1 h.ns2 h.top.ns1 h.top.ns2 (postfix p) (waiting l.and AndNode) ns (postfix w.q) h.nodes h.top.nodes w.nodes;
      all = regrouped h.a h.b h.top.a h.top.b v u w.us h.all h.top.all w.all;
    }
  where
    regrouped : (a b c d v u w : List Terminal) → u ≡ a ++ b → b ≡ c ++ d → w ≡ d ++ v → u ++ v ≡ a ++ (c ++ w)
    regrouped a b c d v u w e f g = rw (e, f, g) (simp append_assoc)

fresh : LevelOf (level false false) [] []
fresh = record { ns1 = []; ns2 = []; a = []; b = []; ors = (refl, refl); ands = (refl, refl); nodes = refl; all = refl }

open_more : (ls : List Level) (l : Level) (ns : List Node) (u : List Terminal) → WantOf ls l ns u
    → WantOf (l ∷ ls) (level false false) ns (u ++ sign LeftParen ∷ [])
open_more ls l ns u h = record {
  ns1 = ns;
  ns2 = [];
  a = u ++ sign LeftParen ∷ [];
  b = [];
  stack = (h.ns1, h.ns2, h.a, h.b, h.stack, h.top, h.nodes, rw h.all (append_assoc h.a h.b (sign LeftParen ∷ [])));
  top = fresh;
  nodes = sym (append-nil ns);
  all = sym (append-nil (u ++ sign LeftParen ∷ []));
}

and_more : (ls : List Level) (o : Bool) (ns : List Node) (u : List Terminal) → HaveOf ls o ns u → WantOf ls (level o true) ns (u ++ key And ∷ [])
and_more ls o ns u h = record {
  ns1 = h.ns1;
  ns2 = h.ns2 ++ postfix h.q;
  a = h.a;
  b = h.b ++ (h.v ++ key And ∷ []);
  stack = h.stack;
  top = record { ns1 = h.ns2; ns2 = postfix h.q; a = h.b; b = h.v ++ key And ∷ []; ors = h.ors; ands = (h.q, h.v, h.is, refl, refl); nodes = refl; all = refl };
  nodes = h.nodes;
  all = rw h.all (simp append_assoc);
}

or_more : (ls : List Level) (o : Bool) (ns : List Node) (u : List Terminal) → HaveOf ls o ns u
    → WantOf ls (level true false) (ns ++ waiting o OrNode) (u ++ key Or ∷ [])
or_more ls o ns u h =
    let w = whole o h.q h.ns2 h.b h.v h.ors h.is in
    record {
      ns1 = h.ns1;
      ns2 = postfix w.d;
      a = h.a;
      b = w.us ++ key Or ∷ [];
      stack = h.stack;
      top = record { ns1 = postfix w.d; ns2 = []; a = w.us ++ key Or ∷ []; b = []; ors = (w.d, w.us, w.is, refl, refl); ands = (refl, refl); nodes = sym (append-nil (postfix w.d)); all = sym (append-nil (w.us ++ key Or ∷ [])) };
      nodes = split_end h.ns1 h.ns2 (postfix h.q) (waiting o OrNode) ns (postfix w.d) h.nodes w.nodes;
      all = grouped h.a h.b h.v u w.us h.all w.all;
    }
  where
    grouped : (a b v u w : List Terminal) → u ≡ a ++ (b ++ v) → w ≡ b ++ v → u ++ key Or ∷ [] ≡ a ++ (w ++ key Or ∷ [])
    grouped a b v u w e f = rw (e, f) (append_assoc a (b ++ v) (key Or ∷ []))

close_more : (ls : List Level) (l : Level) (o : Bool) (ns : List Node) (u : List Terminal) → HaveOf (l ∷ ls) o ns u
    → HaveOf ls l.or ((ns ++ waiting o OrNode) ++ waiting l.and AndNode) (u ++ sign RightParen ∷ [])
close_more ls l o ns u h =
    let w = whole o h.q h.ns2 h.b h.v h.ors h.is in
    let (n1, n2, a, b, stack, top, nodes, all) = h.stack in
    let before : WantOf ls l (n1 ++ n2) (a ++ b) = record { ns1 = n1; ns2 = n2; a = a; b = b; stack = stack; top = top; nodes = refl; all = refl } in
    let made : HaveOf ls l.or ((n1 ++ n2) ++ (postfix w.d ++ waiting l.and AndNode)) ((a ++ b) ++ sign LeftParen ∷ (w.us ++ sign RightParen ∷ [])) = prim_more ls l (n1 ++ n2) (a ++ b) (sign LeftParen ∷ (w.us ++ sign RightParen ∷ [])) w.d before (brackets w.is) in
    let nodes_so = node_groups n1 n2 h.ns1 h.ns2 (postfix h.q) (waiting o OrNode) (waiting l.and AndNode) (postfix w.d) ns h.nodes nodes w.nodes in
    let all_so = bracket_groups a b h.a h.b h.v w.us u h.all all w.all in
    subst (λ (p : List Node × List Terminal). HaveOf ls l.or p.0 p.1) (λ i. (nodes_so i, all_so i)) made
  where
    node_groups : (n1 n2 m1 m2 q o a d ns : List Node) → ns ≡ m1 ++ (m2 ++ q) → m1 ≡ n1 ++ n2 → d ≡ m2 ++ (q ++ o) → (n1 ++ n2) ++ (d ++ a) ≡ (ns ++ o) ++ a
    node_groups n1 n2 m1 m2 q o a d ns e f g = rw (e, f, g) (simp append_assoc)

    bracket_groups : (a b c d v w u : List Terminal) → u ≡ c ++ (d ++ v) → c ≡ a ++ (b ++ sign LeftParen ∷ []) → w ≡ d ++ v
        → (a ++ b) ++ sign LeftParen ∷ (w ++ sign RightParen ∷ []) ≡ u ++ sign RightParen ∷ []
    bracket_groups a b c d v w u e f g = rw (e, f, g) (simp append_assoc)

-- ---- a step keeps it

abbrev open_end : List Level → Level → List Node → List Terminal → Result Reading Syntax
open_end ls l ns rest = Ok (reading (l ∷ ls) (Want (level false false)) ns rest)

abbrev want_end : List Level → Level → List Node → Test × List Terminal → Result Reading Syntax
want_end ls l ns t = Ok (reading ls (Have l.or) (ns ++ TestNode t.0 ∷ waiting l.and AndNode) t.1)

want_keeps : (ts : List Terminal) (ls : List Level) (l : Level) (ns : List Node) (rest u : List Terminal) (b : Bool) (t : Reading)
    → cond b (past (is_sign LeftParen) rest >>= open_end ls l ns) (test_at rest >>= want_end ls l ns) ≡ Ok t
    → WantOf ls l ns u → ts ≡ u ++ rest → ReadOf ts t
want_keeps ts ls l ns rest u true t e h all =
    let a = bind_ok (past (is_sign LeftParen) rest) (open_end ls l ns) t e in
    subst (ReadOf ts) (ok_same (reading (l ∷ ls) (Want (level false false)) ns a.0) t a.2) (record {
      u = u ++ sign LeftParen ∷ [];
      so = open_more ls l ns u h;
      all = behind ts u rest (sign LeftParen ∷ []) a.0 all (past_sign LeftParen rest a.0 a.1);
    })
want_keeps ts ls l ns rest u false t e h all =
    let a = bind_ok (test_at rest) (want_end ls l ns) t e in
    let s = test_sound rest a.0 a.1 in
    subst (ReadOf ts) (ok_same (reading ls (Have l.or) (ns ++ TestNode a.0.0 ∷ waiting l.and AndNode) a.0.1) t a.2) (record {
      u = u ++ s.us;
      so = prim_more ls l ns u s.us (test a.0.0) h (of_test s.is);
      all = behind ts u rest s.us a.0.1 all s.all;
    })

abbrev and_end : List Level → Bool → List Node → List Terminal → Result Reading Syntax
and_end ls o ns rest = Ok (reading ls (Want (level o true)) ns rest)

abbrev or_end : List Level → Bool → List Node → List Terminal → Result Reading Syntax
or_end ls o ns rest = Ok (reading ls (Want (level true false)) (ns ++ waiting o OrNode) rest)

abbrev close_end : List Level → Bool → List Node → List Terminal → Result Reading Syntax
close_end ls o ns rest = close ls (ns ++ waiting o OrNode) rest

close_keeps : (ts : List Terminal) (ls : List Level) (o : Bool) (ns : List Node) (rest u behind_it : List Terminal) (t : Reading)
    → close ls (ns ++ waiting o OrNode) behind_it ≡ Ok t → rest ≡ sign RightParen ∷ behind_it
    → HaveOf ls o ns u → ts ≡ u ++ rest → ReadOf ts t
close_keeps ts [] o ns rest u behind_it t e f h all = absurd (err_ok t e)
close_keeps ts (l ∷ ls) o ns rest u behind_it t e f h all =
    subst (ReadOf ts) (ok_same (reading ls (Have l.or) ((ns ++ waiting o OrNode) ++ waiting l.and AndNode) behind_it) t e) (record {
      u = u ++ sign RightParen ∷ [];
      so = close_more ls l o ns u h;
      all = behind ts u rest (sign RightParen ∷ []) behind_it all f;
    })

have_keeps : (ts : List Terminal) (ls : List Level) (o : Bool) (ns : List Node) (rest u : List Terminal) (b c : Bool) (t : Reading)
    → cond b (past (is_key And) rest >>= and_end ls o ns) (cond c (past (is_key Or) rest >>= or_end ls o ns) (past (is_sign RightParen) rest >>= close_end ls o ns)) ≡ Ok t
    → HaveOf ls o ns u → ts ≡ u ++ rest → ReadOf ts t
have_keeps ts ls o ns rest u true c t e h all =
    let a = bind_ok (past (is_key And) rest) (and_end ls o ns) t e in
    subst (ReadOf ts) (ok_same (reading ls (Want (level o true)) ns a.0) t a.2) (record {
      u = u ++ key And ∷ [];
      so = and_more ls o ns u h;
      all = behind ts u rest (key And ∷ []) a.0 all (past_key And rest a.0 a.1);
    })
have_keeps ts ls o ns rest u false true t e h all =
    let a = bind_ok (past (is_key Or) rest) (or_end ls o ns) t e in
    subst (ReadOf ts) (ok_same (reading ls (Want (level true false)) (ns ++ waiting o OrNode) a.0) t a.2) (record {
      u = u ++ key Or ∷ [];
      so = or_more ls o ns u h;
      all = behind ts u rest (key Or ∷ []) a.0 all (past_key Or rest a.0 a.1);
    })
have_keeps ts ls o ns rest u false false t e h all =
    let a = bind_ok (past (is_sign RightParen) rest) (close_end ls o ns) t e in
    close_keeps ts ls o ns rest u a.0 t a.2 (past_sign RightParen rest a.0 a.1) h all

step_keeps : (ts : List Terminal) (s t : Reading) → condition_step s ≡ Ok t → ReadOf ts s → ReadOf ts t
unfolding want_step have_step
step_keeps ts s t e h = at s.turn e h.so
  where
    at : (turn : Turn) → turn_step turn s.levels s.nodes s.rest ≡ Ok t → TurnOf s.levels turn s.nodes h.u → ReadOf ts t
    at (Want l) e so = want_keeps ts s.levels l s.nodes s.rest h.u (begins (is_sign LeftParen) s.rest) t e so h.all
    at (Have o) e so = have_keeps ts s.levels o s.nodes s.rest h.u (begins (is_key And) s.rest) (begins (is_key Or) s.rest) t e so h.all

finish_so : (ts : List Terminal) (levels : List Level) (turn : Turn) (nodes : List Node) (rest u : List Terminal) (p : List Node × List Terminal)
    → finished levels turn nodes rest ≡ Ok p → TurnOf levels turn nodes u → ts ≡ u ++ rest → Spelled IsNodes p.0 ts p.1
finish_so ts [] (Have o) nodes rest u p e h all =
    let w = whole o h.q h.ns2 h.b h.v h.ors h.is in
    let nodes_so : nodes ++ waiting o OrNode ≡ postfix w.d = split_end h.ns1 h.ns2 (postfix h.q) (waiting o OrNode) nodes (postfix w.d) h.nodes w.nodes ∙ rw h.stack.0 refl in
    let words_so : u ≡ w.us = h.all ∙ rw (h.stack.1, w.all) refl in
    subst (λ (q : List Node × List Terminal). Spelled IsNodes q.0 ts q.1) (ok_same (nodes ++ waiting o OrNode, rest) p e) (record {
      us = w.us;
      is = record { tree = w.d; is = w.is; same = nodes_so };
      all = all ∙ ap (λ (x : List Terminal). x ++ rest) words_so;
    })
finish_so ts [] (Want l) nodes rest u p e h all = absurd (err_ok p e)
finish_so ts (l ∷ ls) turn nodes rest u p e h all = absurd (err_ok p e)

pub condition_sound : IsSound condition_at IsNodes
unfolding condition_at
condition_sound ts p e =
    let a = bind_ok (run condition_goes condition_step (length ts) (start ts)) finish p e in
    let begun : ReadOf ts (start ts) = record { u = []; so = record { ns1 = []; ns2 = []; a = []; b = []; stack = (refl, refl); top = fresh; nodes = refl; all = refl }; all = refl } in
    let h = run_keeps condition_goes condition_step (ReadOf ts) (λ s t g f k. step_keeps ts s t f k) (length ts) (start ts) a.0 a.1 begun in
    finish_so ts a.0.levels a.0.turn a.0.nodes a.0.rest h.u p a.2 h.so h.all

-- ---- each tree's spelling is read

abbrev left : Reading → ℕ
left r = length r.rest

abbrev Goes : Reading → Reading → Type 0
Goes = Moves left condition_goes condition_step

from_rest : (levels : List Level) (turn : Turn) (nodes : List Node) (ts us : List Terminal) (u : Reading) → us ≡ ts → Goes (reading levels turn nodes ts) u
    → Goes (reading levels turn nodes us) u
from_rest levels turn nodes ts us u e m = subst (λ (x : List Terminal). Goes (reading levels turn nodes x) u) (sym e) m

to_nodes : (s : Reading) (levels : List Level) (turn : Turn) (nodes more : List Node) (ts : List Terminal) → nodes ≡ more
    → Goes s (reading levels turn nodes ts) → Goes s (reading levels turn more ts)
to_nodes s levels turn nodes more ts e m = subst (λ (x : List Node). Goes s (reading levels turn x ts)) e m

next : (ts : List Terminal) → length ts < suc (length ts)
next ts = omega arith

step_open : (levels : List Level) (l : Level) (nodes : List Node) (ts : List Terminal)
    → Goes (reading levels (Want l) nodes (sign LeftParen ∷ ts)) (reading (l ∷ levels) (Want (level false false)) nodes ts)
unfolding want_step
step_open levels l nodes ts = go refl refl (next ts) stay

step_and : (levels : List Level) (o : Bool) (nodes : List Node) (ts : List Terminal)
    → Goes (reading levels (Have o) nodes (key And ∷ ts)) (reading levels (Want (level o true)) nodes ts)
unfolding have_step
step_and levels o nodes ts = go refl refl (next ts) stay

step_or : (levels : List Level) (o : Bool) (nodes : List Node) (ts : List Terminal)
    → Goes (reading levels (Have o) nodes (key Or ∷ ts)) (reading levels (Want (level true false)) (nodes ++ waiting o OrNode) ts)
unfolding have_step
step_or levels o nodes ts = go refl refl (next ts) stay

step_close : (levels : List Level) (l : Level) (o : Bool) (nodes : List Node) (ts : List Terminal)
    → Goes (reading (l ∷ levels) (Have o) nodes (sign RightParen ∷ ts)) (reading levels (Have l.or) ((nodes ++ waiting o OrNode) ++ waiting l.and AndNode) ts)
unfolding have_step
step_close levels l o nodes ts = go refl refl (next ts) stay

fewer : (us rest : List Terminal) → 0 < length us → length rest < length (us ++ rest)
fewer us rest lt = omega (arith, lt, length-append us rest)

step_test : (levels : List Level) (l : Level) (nodes : List Node) (t : Test) (us rest : List Terminal) → IsTest t us → EndsSide rest
    → Goes (reading levels (Want l) nodes (us ++ rest)) (reading levels (Have l.or) (nodes ++ (TestNode t ∷ waiting l.and AndNode)) rest)
unfolding want_step
step_test levels l nodes t us rest i ends =
    go refl (rw (first_no_sign LeftParen (test_first i rest), test_complete t us rest i ends) refl) (fewer us rest (test_size i)) stay

-- how a condition is left: its last operator waits
record LeftOf (levels : List Level) (s : Reading) (nodes : List Node) (rest : List Terminal) : Type 0 where
  waits : Bool
  so_far : List Node
  moves : Goes s (reading levels (Have waits) so_far rest)
  nodes_are : so_far ++ waiting waits OrNode ≡ nodes

closed : (n c a w : List Node) (o : List Node) → n ++ o ≡ w ++ c → (n ++ o) ++ a ≡ w ++ (c ++ a)
closed n c a w o e = rw e (append_assoc w c a)

ors : (n w a b m : List Node) → n ++ w ≡ m ++ a → ((n ++ w) ++ b) ++ OrNode ∷ [] ≡ m ++ (a ++ (b ++ OrNode ∷ []))
ors n w a b m e = rw e (simp append_assoc)

mutual
  prim_moves : {c : Cond} {us : List Terminal} → IsPrim c us → (levels : List Level) (l : Level) (nodes : List Node) (rest : List Terminal) → EndsSide rest
      → Goes (reading levels (Want l) nodes (us ++ rest)) (reading levels (Have l.or) (nodes ++ (postfix c ++ waiting l.and AndNode)) rest)
  prim_moves (brackets {c = c} {us = us} d) levels l nodes rest ends =
      let inside = cond_moves d (l ∷ levels) nodes (sign RightParen ∷ rest) (record { dot = refl }) in
      let same : (us ++ sign RightParen ∷ []) ++ rest ≡ us ++ sign RightParen ∷ rest = append_assoc us (sign RightParen ∷ []) rest in
      let closing = to_nodes _ levels (Have l.or) ((inside.so_far ++ waiting inside.waits OrNode) ++ waiting l.and AndNode) (nodes ++ (postfix c ++ waiting l.and AndNode)) rest
      (closed inside.so_far (postfix c) (waiting l.and AndNode) nodes (waiting inside.waits OrNode) inside.nodes_are)
      (step_close levels l inside.waits inside.so_far rest) in
      moves_then left condition_goes condition_step (step_open levels l nodes ((us ++ sign RightParen ∷ []) ++ rest))
      (from_rest (l ∷ levels) (Want (level false false)) nodes (us ++ sign RightParen ∷ rest) ((us ++ sign RightParen ∷ []) ++ rest) _ same
      (moves_then left condition_goes condition_step inside.moves closing))
  prim_moves (of_test {t = t} {us = us} i) levels l nodes rest ends = step_test levels l nodes t us rest i ends

  conj_moves : {c : Cond} {us : List Terminal} → IsConj c us → (levels : List Level) (o : Bool) (nodes : List Node) (rest : List Terminal) → EndsSide rest
      → Goes (reading levels (Want (level o false)) nodes (us ++ rest)) (reading levels (Have o) (nodes ++ postfix c) rest)
  conj_moves (prim {c = c} {us = us} i) levels o nodes rest ends =
      to_nodes _ levels (Have o) (nodes ++ (postfix c ++ [])) (nodes ++ postfix c) rest (ap (λ (x : List Node). nodes ++ x) (append-nil (postfix c))) (prim_moves i levels (level o false) nodes rest ends)
  conj_moves (and {a = a} {b = b} {us = us} {vs = vs} q i) levels o nodes rest ends =
      let before = conj_moves q levels o nodes (key And ∷ (vs ++ rest)) (record { dot = refl }) in
      let here = step_and levels o (nodes ++ postfix a) (vs ++ rest) in
      let last = to_nodes _ levels (Have o) ((nodes ++ postfix a) ++ (postfix b ++ AndNode ∷ [])) (nodes ++ (postfix a ++ (postfix b ++ AndNode ∷ []))) rest (append_assoc nodes (postfix a) (postfix b ++ AndNode ∷ []))
      (prim_moves i levels (level o true) (nodes ++ postfix a) rest ends) in
      from_rest levels (Want (level o false)) nodes (us ++ key And ∷ (vs ++ rest)) ((us ++ key And ∷ vs) ++ rest) _ (append_assoc us (key And ∷ vs) rest)
      (moves_then left condition_goes condition_step before (moves_then left condition_goes condition_step here last))

  cond_moves : {c : Cond} {us : List Terminal} → IsCond c us → (levels : List Level) (nodes : List Node) (rest : List Terminal) → EndsSide rest
      → LeftOf levels (reading levels (Want (level false false)) nodes (us ++ rest)) (nodes ++ postfix c) rest
  cond_moves (conj {c = c} {us = us} q) levels nodes rest ends = record {
    waits = false;
    so_far = nodes ++ postfix c;
    moves = conj_moves q levels false nodes rest ends;
    nodes_are = append-nil (nodes ++ postfix c);
  }
  cond_moves (or {a = a} {b = b} {us = us} {vs = vs} d q) levels nodes rest ends =
      let before = cond_moves d levels nodes (key Or ∷ (vs ++ rest)) (record { dot = refl }) in
      let here = step_or levels before.waits before.so_far (vs ++ rest) in
      let last = conj_moves q levels true (before.so_far ++ waiting before.waits OrNode) rest ends in
      record {
        waits = true;
        so_far = (before.so_far ++ waiting before.waits OrNode) ++ postfix b;
        moves = from_rest levels (Want (level false false)) nodes (us ++ key Or ∷ (vs ++ rest)) ((us ++ key Or ∷ vs) ++ rest) _ (append_assoc us (key Or ∷ vs) rest)
            (moves_then left condition_goes condition_step before.moves (moves_then left condition_goes condition_step here last));
        nodes_are = ors before.so_far (waiting before.waits OrNode) (postfix a) (postfix b) nodes before.nodes_are;
      }

-- what ends a condition
pub record EndsCond (ts : List Terminal) : Type 0 where
  pub dot : begins (is_sign Dot) ts ≡ false
  pub and_ : begins (is_key And) ts ≡ false
  pub or_ : begins (is_key Or) ts ≡ false

pub condition_complete : (tree : Cond) (us rest : List Terminal) → IsCond tree us → EndsCond rest → condition_at (us ++ rest) ≡ Ok (postfix tree, rest)
unfolding condition_at
condition_complete tree us rest i ends =
    let r = cond_moves i [] [] rest (record { dot = ends.dot }) in
    let stops : condition_goes (reading [] (Have r.waits) r.so_far rest) ≡ false = rw (ends.and_, ends.or_) refl in
    rw (run_moves left condition_goes condition_step r.moves stops (length (us ++ rest)) (omega arith)) (ap (λ (x : List Node). Ok (x, rest)) r.nodes_are)
