use Rattle.lock_desk.proofs.object.BookTelling.ended.Goals as goal

pub returns : goal.returns
returns c from u tells = let e = c.ended.ensures.ended u in let t = tells u in (λ h. t.0 (e.0 h), λ h. e.1 (t.1 h))
