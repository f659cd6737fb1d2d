pub mod Trusts
