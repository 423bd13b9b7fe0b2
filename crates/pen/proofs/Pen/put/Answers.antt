use Rattle.std.proofs.Common.{◌≡◌, None, [], ◌∷◌, ◌++◌, refl, sym, subst, rules, arith}
use Rattle.pen.specs.Bytes.{LaidIn}
use Rattle.pen.proofs.Laying.{laid_more, laid_short, laid_full}
use Rattle.pen.proofs.Pen.put.Goals as goal

pub returns-in_default : goal.returns-in_default
returns-in_default c = record {
  laid =
      λ vs h.
      let over : c.args.self.now.words ≡ None = search rules in
      subst (λ ws. LaidIn (vs ++ (c.args.word ∷ [])) ws c.args.self.now.bytes.now) (sym over)
      (laid_full vs c.args.word c.args.self.now.bytes.now (subst (λ ws. LaidIn vs ws c.args.self.now.bytes.now) over h));
  room = refl;
  lent = refl;
}

pub returns-then-self-at-lt4 : goal.returns-then-self-at-lt4
returns-then-self-at-lt4 c = record {
  laid = λ vs h. laid_short vs c.args.word c.in-Some.words c.args.self.now.bytes.now (omega arith) (subst (λ ws. LaidIn vs ws c.args.self.now.bytes.now) c.in-Some.is h);
  room = refl;
  lent = refl;
}

pub returns : goal.returns
returns c = record {
  laid = λ vs h. laid_more vs c.args.word c.in-Some.words c.args.self.now.bytes.now c.copy_from_slice.new.self _ (omega arith) (omega arith) (search rules) (subst (λ ws. LaidIn vs ws c.args.self.now.bytes.now) c.in-Some.is h);
  room = search rules;
  lent = refl;
}
