-- A bench of one of two types. Assumes nothing.
--
--   of_either f g e   what f says of the one, or g of the other
use Rattle.bench.specs.declared.either.EitherBench.{EitherBench}
use Rattle.bench.specs.declared.either.EitherBench.TheVariants.{Left, Right}

abbrev pub of_either : {L R X : Type 0} → (L → X) → (R → X) → EitherBench L R → X
of_either f g (Left x) = f x
of_either f g (Right y) = g y
