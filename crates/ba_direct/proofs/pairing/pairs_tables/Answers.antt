use Rattle.std.proofs.Common.{◌≡◌, ℕ, ◌<◌, List, map, length, sym, subst}
use Rattle.std.specs.Prelude.{Some, slice_get}
use Rattle.ba_direct.proofs.pairing.pairs_tables.Goals as goal

tables_from : (from from' to tables tables' : List ℕ) → from ≡ from' → tables ≡ tables' → map (slice_get from) to ≡ map Some tables → map (slice_get from') to ≡ map Some tables'
tables_from from from' to tables tables' e f h = subst (λ ts. map (slice_get from') to ≡ map Some ts) f (subst (λ fs. map (slice_get fs) to ≡ map Some tables) e h)

pub returns-then-not-has_tables : goal.returns-then-not-has_tables
returns-then-not-has_tables c = (
  λ e. cc,
  λ p. let k = c.has_tables.ensures.1 (tables_from _ _ c.args.to.now _ _ (sym c.as_slice.ensures) (sym c.as_slice-2.ensures) p.tables) in cc,
)

pub returns : goal.returns
returns c =
    let e : c.len-2.result ≡ length (c.args.part.now).from = c.len-2.ensures in (
      λ h.
          record {
            as_many = cc;
            tables = tables_from _ _ c.args.to.now _ _ c.as_slice.ensures c.as_slice-2.ensures (c.has_tables.ensures.0 (cc));
            once = λ place below. c.pairs_each_once.ensures.0 h place (subst (λ n. place < n) (sym e) below);
          },
      λ p. c.pairs_each_once.ensures.1 (λ place below. p.once place (subst (λ n. place < n) e below)),
    )
