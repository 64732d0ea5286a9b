use Rattle.std.proofs.Common.{◌≡◌, ◌-◌, take, drop, ap, ◌∙◌, arith}
use Rattle.std.proofs.lemmas.List.{take_all, length-drop}
use Rattle.octets.specs.Buffers.{is_blank}
use Rattle.session.specs.Records.{fields_fit}
use Rattle.std.proofs.lemmas.Bool.Decides.{Decides-at}
use Rattle.session.proofs.Fitting.{fields_fit_is}
use Rattle.session.proofs.SessionState.fits.Goals as goal

pub returns-then-lifetime_fits-clause-decides : goal.returns-then-lifetime_fits-clause-decides
unfolding fields_fit
returns-then-lifetime_fits-clause-decides c =
    let s = c.args.self.now in
    let all : take (32 - s.name_length) (drop s.name_length s.name) ≡ drop s.name_length s.name =
    take_all (32 - s.name_length) (drop s.name_length s.name) (omega (arith, length-drop s.name_length s.name)) in
    let blank = c.is_blank.ensures ∙ ap is_blank all in
    Decides-at _ _ (grind (arith, blank)) (fields_fit_is s (omega arith))
