-- What a call sees of the outside, through what the types of the store, the sinks and the releasers tell.
use Rattle.std.specs.Prelude.{ℕ, List, Option}
use Rattle.cv_io.specs.Files.{Files}
use Rattle.cv_io.specs.Releasers.{Classes}
use Rattle.confllvm_top.specs.Endings.{Outside}
use Rattle.confllvm_top.specs.Plans.{shelf}
use Rattle.confllvm_top.specs.Streams.{stream}

abbrev pub outside : {S O E : Type 0} → (S → Option Files) → (S → ℕ) → (O → Option (List ℕ)) → (O → ℕ) → (E → Option (List ℕ)) → (E → ℕ) → S → S → O → O → E → E → Classes → Classes → Outside
outside contents store_faults out_held out_faults err_held err_faults store store' out out' err err' classes classes' = record {
  out = stream out_held out_faults out out';
  err = stream err_held err_faults err err';
  store = shelf contents store_faults store store';
  classes_before = classes;
  classes = classes';
}
