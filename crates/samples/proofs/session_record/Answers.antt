use Rattle.std.proofs.Common.{◌≡◌, true, arith}
use Rattle.session.specs.Records.{fields_fit}
use Rattle.session.proofs.Fitting.{fields_fit_is}
use Rattle.samples.proofs.session_record.Goals as goal

pub unwrap-requires : goal.unwrap-requires
unwrap-requires c =
    let fit : fields_fit c.session.result ≡ true = (fields_fit_is c.session.result (omega arith)).1 c.session.ensures.fits in
    rw (c.fitting_record.ensures.is, fit)
