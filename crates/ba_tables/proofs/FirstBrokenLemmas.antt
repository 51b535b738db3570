-- The first broken key or link of the tables, and the first broken rule after them.
use Rattle.std.proofs.Common.{◌≡◌, ℕ, ◌+◌, ◌<◌, ◌⊎◌, inl, inr, Bool, true, false, not, List, [], Option, Some, None, refl, sym, ap, ◌∙◌, arith, subst, nat_lt}
use Rattle.std.proofs.lemmas.Bool.Decides.{nat_tests}
use Rattle.std.specs.List.{list_any, position_from}
use Rattle.std.specs.Ordering.{is_gt, ordering_reverse}
use Rattle.std.specs.Prelude.{slice_get}
use Rattle.std.specs.declared.cmp.Ordering.{Ordering}
use Rattle.std.specs.declared.cmp.Ordering.TheVariants.{Less, Equal, Greater}
use Rattle.ba_model.proofs.TestLemmas.{any_decides}
use Rattle.ba_model.specs.Conform.{Match, NoNull}
use Rattle.ba_model.specs.Meaning.{rows_of}
use Rattle.ba_model.specs.Order.{row_cmp}
use Rattle.ba_model.specs.OrderLaws.{row_total}
use Rattle.ba_model.specs.declared.schema.Link.{Link}
use Rattle.ba_model.specs.declared.schema.Rule.{Rule}
use Rattle.ba_model.specs.declared.schema.Schema.{Schema}
use Rattle.ba_model.specs.declared.schema.Table.{Table}
use Rattle.ba_model.specs.declared.value.RowSet.{RowSet}
use Rattle.ba_model.specs.declared.value.Value.{Value}
use Rattle.ba_tables.specs.Breaks.{Before, BreaksKey, BreaksLink, BreaksRule, IsBroken, IsFirstBroken, IsTableAt}
use Rattle.ba_tables.specs.Broken.{agrees, broken_key, broken_link, broken_table, clash_after, clashes, dangles, has_no_null}
use Rattle.ba_tables.specs.Rules.{broken_rule, least_breaking}
use Rattle.ba_tables.specs.declared.broken.TablesFault.{TablesFault}
use Rattle.ba_tables.specs.declared.broken.TablesFault.TheVariants.{KeyBroken, LinkBroken, RuleBroken}
use Rattle.ba_tables.proofs.AgreeLemmas.{agrees_decides, both, halves, no_null_test, no_null_told}
use Rattle.ba_tables.proofs.ConformLemmas.{none_clashes}
use Rattle.ba_tables.proofs.FoundLemmas.{FirstClash, FirstTable, FoundAt, IsQuiet, clash_first, key_first, link_first, no_keys, no_links, no_tables, table_first}
use Rattle.ba_tables.proofs.PositionLemmas.{position-none}
use Rattle.ba_tables.proofs.RuleLemmas.{BreaksFirst, FirstRule, breaking_none, breaking_told, no_rules, rule_first}

clash_test : (key : List ℕ) (later earlier : List Value) → NoNull later key → Match later key earlier key → clashes key later earlier ≡ true
clash_test key later earlier n m = both (has_no_null later key) (agrees later key earlier key) (no_null_test later key n) ((agrees_decides later key earlier key).1 m)

-- no clash, no broken key
no_clash_no_break : (rows : List (List Value)) (key : List ℕ) (first second : ℕ) → clash_after key [] rows ≡ None → BreaksKey rows key first second → ⊥
no_clash_no_break rows key first second e h =
    let (i, first_is, at_i) = h.earlier_is in
    let (j, second_is, at_j) = h.later_is in
    let before = h.before in
    cc (sym (none_clashes key [] rows i j h.earlier h.later e (omega arith) at_i at_j) ∙ clash_test key h.later h.earlier h.no_null h.equal)

-- a clash that was found breaks the key, and none before it does
clash_breaks : (rows : List (List Value)) (key : List ℕ) (first second : ℕ) → FirstClash key [] rows first second → BreaksKey rows key first second
clash_breaks rows key first second h =
    let p = halves (has_no_null h.later key) (agrees h.later key h.earlier key) h.clash in
    let first_is = h.first_is in
    let second_is = h.second_is in
    let below = h.below in
    record {
      earlier = h.earlier;
      later = h.later;
      earlier_is = (h.i, first_is, h.earlier_is);
      later_is = (h.j, omega arith, h.later_is);
      before = omega arith;
      no_null = no_null_told h.later key p.0;
      equal = (agrees_decides h.later key h.earlier key).0 p.1;
    }

clash_least : (rows : List (List Value)) (key : List ℕ) (first second a b : ℕ) → FirstClash key [] rows first second → BreaksKey rows key a b → ((b < second) ⊎ ((b ≡ second) × (a < first))) → ⊥
clash_least rows key first second a b h g (inl less) =
    let (i, first_is, at_i) = g.earlier_is in
    let (j, second_is, at_j) = g.later_is in
    let before = g.before in
    let last = h.second_is in
    cc (sym (h.least_second j g.later i g.earlier (omega arith) at_j (omega arith) at_i) ∙ clash_test key g.later g.earlier g.no_null g.equal)
clash_least rows key first second a b h g (inr (same, less)) =
    let (i, first_is, at_i) = g.earlier_is in
    let (j, second_is, at_j) = g.later_is in
    let one = h.first_is in
    let last = h.second_is in
    let place : h.j ≡ j = omega arith in
    let row : Some h.later ≡ Some g.later = sym h.later_is ∙ rw place at_j in
    let later : h.later ≡ g.later = cc row in
    let found : clashes key h.later g.earlier ≡ true = rw later (clash_test key g.later g.earlier g.no_null g.equal) in
    cc (sym (h.least_first i g.earlier (omega arith) at_i) ∙ found)

-- the same of links
dangles_test : (d : RowSet) (rows : List (List Value)) (link : Link) (number : ℕ) (h : BreaksLink d rows link number) → dangles link (rows_of d link.target) h.row ≡ true
dangles_test d rows link number h = both (has_no_null h.row link.columns) (not (list_any (λ target. agrees h.row link.columns target link.target_columns) (rows_of d link.target))) (no_null_test h.row link.columns h.no_null) (by (list_any (λ target. agrees h.row link.columns target link.target_columns) (rows_of d link.target)) refl)
  where
    by : (b : Bool) → list_any (λ target. agrees h.row link.columns target link.target_columns) (rows_of d link.target) ≡ b → not b ≡ true
    by false t = refl
    by true t =
        let some = (any_decides (λ target. agrees h.row link.columns target link.target_columns) (λ target. Match h.row link.columns target link.target_columns) (λ target. agrees_decides h.row link.columns target link.target_columns) (rows_of d link.target)).0 t in
        absurd (h.no_target some.0 some.1 some.2)

dangling_breaks : (d : RowSet) (rows : List (List Value)) (link : Link) (number : ℕ) → FoundAt (dangles link (rows_of d link.target)) 1 rows number → BreaksLink d rows link number
dangling_breaks d rows link number h =
    let p = halves (has_no_null h.x link.columns) (not (list_any (λ target. agrees h.x link.columns target link.target_columns) (rows_of d link.target))) h.passes in
    let place = h.place in
    record {
      row = h.x;
      row_is = (h.i, omega arith, h.is);
      no_null = no_null_told h.x link.columns p.0;
      no_target = λ target has equal.
          let some = (any_decides (λ t. agrees h.x link.columns t link.target_columns) (λ t. Match h.x link.columns t link.target_columns) (λ t. agrees_decides h.x link.columns t link.target_columns) (rows_of d link.target)).1 (target, has, equal) in
          cc (rw some at p.1);
    }

no_dangling_no_break : (d : RowSet) (rows : List (List Value)) (link : Link) (number : ℕ) → position_from (dangles link (rows_of d link.target)) 1 rows ≡ None → BreaksLink d rows link number → ⊥
no_dangling_no_break d rows link number e h =
    let (i, number_is, at_i) = h.row_is in
    cc (sym (position-none (dangles link (rows_of d link.target)) 1 rows i h.row e at_i) ∙ dangles_test d rows link number h)

dangling_least : (d : RowSet) (rows : List (List Value)) (link : Link) (number other : ℕ) → FoundAt (dangles link (rows_of d link.target)) 1 rows number → BreaksLink d rows link other → other < number → ⊥
dangling_least d rows link number other h g less =
    let (i, other_is, at_i) = g.row_is in
    let place = h.place in
    cc (sym (h.earlier i g.row (omega arith) at_i) ∙ dangles_test d rows link other g)

-- a table with no broken key and no broken link breaks nothing
quiet_key : (number : ℕ) (d : RowSet) (table : Table) (rows : List (List Value)) (k : ℕ) (columns : List ℕ) (first second : ℕ) → broken_key number 0 rows table.keys ≡ None → slice_get table.keys k ≡ Some columns → BreaksKey rows columns first second → ⊥
quiet_key number d table rows k columns first second e at h = no_clash_no_break rows columns first second (no_keys number 0 rows table.keys k columns e at) h

quiet_link : (number : ℕ) (d : RowSet) (table : Table) (rows : List (List Value)) (k : ℕ) (link : Link) (row : ℕ) → broken_link number 0 d rows table.links ≡ None → slice_get table.links k ≡ Some link → BreaksLink d rows link row → ⊥
quiet_link number d table rows k link row e at h = no_dangling_no_break d rows link row (no_links number 0 d rows table.links k link e at) h

pub quiet_fault : (s : Schema) (d : RowSet) (fault : TablesFault) → ((number : ℕ) (table : Table) (rows : List (List Value)) → IsTableAt s d number table rows → IsQuiet (0 + number) d table rows) → broken_rule 0 d s.rules ≡ None → IsBroken s d fault → ⊥
quiet_fault s d (KeyBroken number key first second) q none (table, rows, columns, at, is, breaks) = quiet_key (0 + number) d table rows key columns first second (q number table rows at).keys is breaks
quiet_fault s d (LinkBroken number link row) q none (table, rows, it, at, is, breaks) = quiet_link (0 + number) d table rows link it row (q number table rows at).links is breaks
quiet_fault s d (RuleBroken number row) q none (rule, at, breaks) = breaking_none d rule row (no_rules 0 d s.rules number rule none at) breaks

same_table : (s : Schema) (d : RowSet) (n m : ℕ) (table other : Table) (rows list : List (List Value)) → n ≡ m → IsTableAt s d n table rows → IsTableAt s d m other list → (table ≡ other) × (rows ≡ list)
same_table s d n m table other rows list e a b =
    let one : Some table ≡ Some other = sym a.table_is ∙ rw e b.table_is in
    let two : Some rows ≡ Some list = sym a.rows_are ∙ rw e b.rows_are in
    (cc one, cc two)

same_element : {X : Type 0} (xs : List X) (i j : ℕ) (x y : X) → i ≡ j → slice_get xs i ≡ Some x → slice_get xs j ≡ Some y → x ≡ y
same_element xs i j x y e a b = let one : Some x ≡ Some y = sym a ∙ rw e b in cc one

-- the table with the first broken key or link, seen from the whole
record Place (s : Schema) (d : RowSet) (n : ℕ) (table : Table) (rows : List (List Value)) : Type 0 where
  here : IsTableAt s d n table rows
  quiet_before : (k : ℕ) (other : Table) (list : List (List Value)) → k < n → IsTableAt s d k other list → IsQuiet (0 + k) d other list

key_is_first : (s : Schema) (d : RowSet) (n : ℕ) (table : Table) (rows : List (List Value)) (number first second : ℕ) (key : List ℕ) → Place s d n table rows → slice_get table.keys number ≡ Some key → FirstClash key [] rows first second
    → ((k : ℕ) (other : List ℕ) → k < number → slice_get table.keys k ≡ Some other → clash_after other [] rows ≡ None)
    → (other : TablesFault) → IsBroken s d other → Before other (KeyBroken n number first second) → ⊥
key_is_first s d n table rows number first second key place key_is clash earlier (KeyBroken t k a b) (it, list, columns, at, is, breaks) (inl less) =
    quiet_key (0 + t) d it list k columns a b (place.quiet_before t it list less at).keys is breaks
key_is_first s d n table rows number first second key place key_is clash earlier (KeyBroken t k a b) (it, list, columns, at, is, breaks) (inr (same, rest)) =
    let (one, two) = same_table s d t n it table list rows same at place.here in
    inside one two rest
  where
    inside : it ≡ table → list ≡ rows → ((k < number) ⊎ ((k ≡ number) × ((b < second) ⊎ ((b ≡ second) × (a < first))))) → ⊥
    inside one two (inl less) = no_clash_no_break rows columns a b (earlier k columns less (subst (λ x. slice_get x.keys k ≡ Some columns) one is)) (subst (λ x. BreaksKey x columns a b) two breaks)
    inside one two (inr (level, less)) =
        let mine = same_element table.keys k number columns key level (subst (λ x. slice_get x.keys k ≡ Some columns) one is) key_is in
        clash_least rows key first second a b clash (subst (λ x. BreaksKey rows x a b) mine (subst (λ x. BreaksKey x columns a b) two breaks)) less
key_is_first s d n table rows number first second key place key_is clash earlier (LinkBroken t k i) (it, list, link, at, is, breaks) less =
    quiet_link (0 + t) d it list k link i (place.quiet_before t it list less at).links is breaks
key_is_first s d n table rows number first second key place key_is clash earlier (RuleBroken k r) broken before = absurd before

link_is_first : (s : Schema) (d : RowSet) (n : ℕ) (table : Table) (rows : List (List Value)) (number row : ℕ) (link : Link) → Place s d n table rows → broken_key n 0 rows table.keys ≡ None → slice_get table.links number ≡ Some link
    → FoundAt (dangles link (rows_of d link.target)) 1 rows row
    → ((k : ℕ) (other : Link) → k < number → slice_get table.links k ≡ Some other → position_from (dangles other (rows_of d other.target)) 1 rows ≡ None)
    → (other : TablesFault) → IsBroken s d other → Before other (LinkBroken n number row) → ⊥
link_is_first s d n table rows number row link place keys link_is found earlier (KeyBroken t k a b) (it, list, columns, at, is, breaks) upto = by (nat_lt t n) refl
  where
    by : (b2 : Bool) → nat_lt t n ≡ b2 → ⊥
    by true u =
        let less : t < n = grind (arith, nat_tests) in
        quiet_key (0 + t) d it list k columns a b (place.quiet_before t it list less at).keys is breaks
    by false u =
        let same : t ≡ n = grind (arith, nat_tests) in
        let (one, two) = same_table s d t n it table list rows same at place.here in
        quiet_key n d table rows k columns a b keys (subst (λ x. slice_get x.keys k ≡ Some columns) one is) (subst (λ x. BreaksKey x columns a b) two breaks)
link_is_first s d n table rows number row link place keys link_is found earlier (LinkBroken t k i) (it, list, other, at, is, breaks) (inl less) =
    quiet_link (0 + t) d it list k other i (place.quiet_before t it list less at).links is breaks
link_is_first s d n table rows number row link place keys link_is found earlier (LinkBroken t k i) (it, list, other, at, is, breaks) (inr (same, rest)) =
    let (one, two) = same_table s d t n it table list rows same at place.here in
    inside one two rest
  where
    inside : it ≡ table → list ≡ rows → ((k < number) ⊎ ((k ≡ number) × (i < row))) → ⊥
    inside one two (inl less) = no_dangling_no_break d rows other i (earlier k other less (subst (λ x. slice_get x.links k ≡ Some other) one is)) (subst (λ x. BreaksLink d x other i) two breaks)
    inside one two (inr (level, less)) =
        let mine = same_element table.links k number other link level (subst (λ x. slice_get x.links k ≡ Some other) one is) link_is in
        dangling_least d rows link row i found (subst (λ x. BreaksLink d rows x i) mine (subst (λ x. BreaksLink d x other i) two breaks)) less
link_is_first s d n table rows number row link place keys link_is found earlier (RuleBroken k r) broken before = absurd before

pub first_broken : (s : Schema) (d : RowSet) (fault : TablesFault) → broken_table 0 d s.tables d.tables ≡ Some fault → IsFirstBroken s d fault
first_broken s d fault e = by (table_first 0 d s.tables d.tables fault e)
  where
    by : FirstTable 0 d s.tables d.tables fault → IsFirstBroken s d fault
    by h =
        let spot = h.place in
        let at : h.i ≡ h.number = omega arith in
        let here : IsTableAt s d h.number h.table h.rows = record { table_is = subst (λ x. slice_get s.tables x ≡ Some h.table) at h.table_is; rows_are = subst (λ x. slice_get d.tables x ≡ Some h.rows) at h.rows_are } in
        let place : Place s d h.number h.table h.rows = record { here = here; quiet_before = λ k other list less there. h.earlier k other list (omega arith) there.table_is there.rows_are } in
        each h place h.fault_is
      where
        each : (h : FirstTable 0 d s.tables d.tables fault) → Place s d h.number h.table h.rows → ((broken_key h.number 0 h.rows h.table.keys ≡ Some fault) ⊎ ((broken_key h.number 0 h.rows h.table.keys ≡ None) × (broken_link h.number 0 d h.rows h.table.links ≡ Some fault)))
            → IsFirstBroken s d fault
        each h place (inl k) =
            let f = key_first h.number 0 h.rows h.table.keys fault k in
            let spot = f.place in
            let at : f.i ≡ f.number = omega arith in
            let key_is = subst (λ x. slice_get h.table.keys x ≡ Some f.key) at f.key_is in
            let clash = clash_first f.key [] h.rows f.first f.second f.clash in
            subst (IsFirstBroken s d) (sym f.fault_is)
            (record {
              broken = (h.table, h.rows, f.key, place.here, key_is, clash_breaks h.rows f.key f.first f.second clash);
              first = key_is_first s d h.number h.table h.rows f.number f.first f.second f.key place key_is clash (λ n other less there. f.earlier n other (omega arith) there);
            })
        each h place (inr (none, l)) =
            let f = link_first h.number 0 d h.rows h.table.links fault l in
            let spot = f.place in
            let at : f.i ≡ f.number = omega arith in
            let link_is = subst (λ x. slice_get h.table.links x ≡ Some f.link) at f.link_is in
            subst (IsFirstBroken s d) (sym f.fault_is)
            (record {
              broken = (h.table, h.rows, f.link, place.here, link_is, dangling_breaks d h.rows f.link f.row f.found);
              first = link_is_first s d h.number h.table h.rows f.number f.row f.link place none link_is f.found (λ n other less there. f.earlier n other (omega arith) there);
            })

-- ---- rules

not_before : (o p : Ordering) → p ≡ ordering_reverse o → o ≡ Less → is_gt p ≡ false → ⊥
not_before Less p e f g = let turned : p ≡ Greater = e in cc (sym (ap is_gt turned) ∙ g)
not_before Equal p e f g = cc f
not_before Greater p e f g = cc f

rule_is_first : (s : Schema) (d : RowSet) (n : ℕ) (row : List Value) (rule : Rule) → ((number : ℕ) (table : Table) (rows : List (List Value)) → IsTableAt s d number table rows → IsQuiet (0 + number) d table rows) → slice_get s.rules n ≡ Some rule → BreaksFirst d rule row
    → ((k : ℕ) (other : Rule) → k < n → slice_get s.rules k ≡ Some other → least_breaking d other ≡ None) → (other : TablesFault) → IsBroken s d other → Before other (RuleBroken n row) → ⊥
rule_is_first s d n row rule q rule_is least earlier (KeyBroken t k a b) (table, rows, columns, at, is, breaks) before = quiet_key (0 + t) d table rows k columns a b (q t table rows at).keys is breaks
rule_is_first s d n row rule q rule_is least earlier (LinkBroken t k i) (table, rows, it, at, is, breaks) before = quiet_link (0 + t) d table rows k it i (q t table rows at).links is breaks
rule_is_first s d n row rule q rule_is least earlier (RuleBroken m r) (other, at, breaks) (inl less) = breaking_none d other r (earlier m other less at) breaks
rule_is_first s d n row rule q rule_is least earlier (RuleBroken m r) (other, at, breaks) (inr (level, less)) =
    let same = same_element s.rules m n other rule level at rule_is in
    not_before (row_cmp r row) (row_cmp row r) (row_total.antisymm row r) less (least.least_is r (subst (λ x. BreaksRule d x r) same breaks))

pub first_rule : (s : Schema) (d : RowSet) (fault : TablesFault) → ((number : ℕ) (table : Table) (rows : List (List Value)) → IsTableAt s d number table rows → IsQuiet (0 + number) d table rows) → broken_rule 0 d s.rules ≡ Some fault → IsFirstBroken s d fault
first_rule s d fault q e = by (rule_first 0 d s.rules fault e)
  where
    by : FirstRule 0 d s.rules fault → IsFirstBroken s d fault
    by f =
        let spot = f.place in
        let at : f.i ≡ f.number_is = omega arith in
        let rule_is = subst (λ x. slice_get s.rules x ≡ Some f.rule) at f.rule_is in
        let least = breaking_told d f.rule f.row f.row_is in
        subst (IsFirstBroken s d) (sym f.fault_is)
        (record {
          broken = (f.rule, rule_is, least.breaks);
          first = rule_is_first s d f.number_is f.row f.rule q rule_is least (λ n other less there. f.earlier n other (omega arith) there);
        })
