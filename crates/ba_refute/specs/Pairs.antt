-- The pair of databases of an image.
use Rattle.ba_refute.specs.declared.clause.Counterexample.{Counterexample}
use Rattle.ba_refute.specs.declared.image.Image.{Image}

abbrev pub pair_of : Image → Counterexample
pair_of it =
    record { one = record { tables = it.one }; two = record { tables = it.two }; row = it.row }
