use Rattle.std.proofs.Common.{inl, ap}
use Rattle.rox_error.specs.declared.error.Error.TheVariants as error
use Rattle.rox_error.proofs.from_fault.error_of_fault.Goals as goal

pub returns-in-Ok : goal.returns-in-Ok
returns-in-Ok c =
    let name = c.in-Ok.prefix in
    let same = ap (error.DuplicatedNamespace name) c.pos-in-Ok.ensures in
    rw c.in-DuplicatedNamespace.is (inl (name, c.in-Ok.ensures, same))

pub returns-in-Ok-named : goal.returns-in-Ok-named
returns-in-Ok-named c =
    let name = c.in-Ok-named.prefix in
    let same = ap (error.UnknownNamespace name) c.pos-in-Ok-named.ensures in
    rw c.in-UnknownNamespace.is (inl (name, c.in-Ok-named.ensures, same))

pub returns-in-Ok-named-2 : goal.returns-in-Ok-named-2
returns-in-Ok-named-2 c =
    let name = c.in-Ok-named-2.entity in
    let same = ap (error.UnknownEntityReference name) c.pos-in-Ok-named-2.ensures in
    rw c.in-UnknownEntityReference.is (inl (name, c.in-Ok-named-2.ensures, same))

pub returns-in-Ok-named-3 : goal.returns-in-Ok-named-3
returns-in-Ok-named-3 c =
    let name = c.in-Ok-named-3.local in
    let same = ap (error.DuplicatedAttribute name) c.pos-in-Ok-named-3.ensures in
    rw c.in-DuplicatedAttribute.is (inl (name, c.in-Ok-named-3.ensures, same))
