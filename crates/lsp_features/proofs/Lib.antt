mod Announcing
