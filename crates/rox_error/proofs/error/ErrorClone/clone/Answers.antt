use Rattle.std.proofs.Common.{refl}
use Rattle.rox_error.proofs.error.ErrorClone.clone.Goals as goal

pub returns-in_ok-clone-in-DuplicatedNamespace : goal.returns-in_ok-clone-in-DuplicatedNamespace
returns-in_ok-clone-in-DuplicatedNamespace c = record {
  cases = rw c.in-DuplicatedNamespace.is (c.in_ok-clone-in-DuplicatedNamespace.field-0, c.in_ok-clone-in-DuplicatedNamespace.ensures.cases, refl);
}

pub returns-in_ok-clone-in-UnknownNamespace : goal.returns-in_ok-clone-in-UnknownNamespace
returns-in_ok-clone-in-UnknownNamespace c = record {
  cases = rw c.in-UnknownNamespace.is (c.in_ok-clone-in-UnknownNamespace.field-0, c.in_ok-clone-in-UnknownNamespace.ensures.cases, refl);
}

pub returns-in_ok-clone-in-UnknownEntityReference : goal.returns-in_ok-clone-in-UnknownEntityReference
returns-in_ok-clone-in-UnknownEntityReference c = record {
  cases = rw c.in-UnknownEntityReference.is (c.in_ok-clone-in-UnknownEntityReference.field-0, c.in_ok-clone-in-UnknownEntityReference.ensures.cases, refl);
}

pub returns-in_ok-clone-in-DuplicatedAttribute : goal.returns-in_ok-clone-in-DuplicatedAttribute
returns-in_ok-clone-in-DuplicatedAttribute c = record {
  cases = rw c.in-DuplicatedAttribute.is (c.in_ok-clone-in-DuplicatedAttribute.field-0, c.in_ok-clone-in-DuplicatedAttribute.ensures.cases, refl);
}

pub returns-in_ok-clone-in-EntityResolver : goal.returns-in_ok-clone-in-EntityResolver
returns-in_ok-clone-in-EntityResolver c = record {
  cases = rw c.in-EntityResolver.is (c.in_ok-clone-in-EntityResolver.field-0, c.in_ok-clone-in-EntityResolver.ensures.cases, refl);
}

pub returns-in_ok-clone-in-UnexpectedCloseTag-2 : goal.returns-in_ok-clone-in-UnexpectedCloseTag-2
returns-in_ok-clone-in-UnexpectedCloseTag-2 c = record {
  cases =
      rw c.in-UnexpectedCloseTag.is (c.in_ok-clone-in-UnexpectedCloseTag.field-0, c.in_ok-clone-in-UnexpectedCloseTag-2.field-0, c.in_ok-clone-in-UnexpectedCloseTag.ensures.cases, c.in_ok-clone-in-UnexpectedCloseTag-2.ensures.cases, refl);
}
