-- The first of two faults.
use Rattle.std.proofs.Common.{◌≡◌, Option, None, refl}
use Rattle.rig_types.specs.declared.fault.ReadFault.{ReadFault}
use Rattle.rig_types.specs.declared.fault.ReadFault.TheVariants.{Bad, OutOfMemory}
use Rattle.file_keys.specs.Faults.{Fault, earlier, Fails}

pub earlier-None : (f g : Option Fault) → f ≡ None → earlier f g ≡ g
earlier-None f g none = rw none refl

pub Fails-earlier : (e : ReadFault) (f g : Option Fault) → Fails e f → Fails e (earlier f g)
Fails-earlier (Bad key kind) f g h = rw h refl
Fails-earlier OutOfMemory f g h = tt
