-- The law over pasts, put together.
use Rattle.std.proofs.Common.{refl}
use Rattle.law.specs.Law.{Law}
use Rattle.law.proofs.PastKeeps.{small, holding}
use Rattle.law.proofs.FromInv.{cover_law, rest_read, once_law}
use Rattle.law.proofs.Alike.{alike}

pub law_holds : Law
law_holds =
    record {
      power_is_on = λ k root name s b p. (holding p).power refl;
      free_slots_are_zero = λ k root name s b p h xs e. rest_read small (holding p) h xs e;
      cover = λ k root name m s b p. cover_law small (holding p);
      once = λ k root name m s b law p. once_law law small (holding p);
      alike = alike;
    }
